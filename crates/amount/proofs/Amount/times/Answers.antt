-- `Amount::times`: the product of the sizes, with the number's sign.
use mathlib.Core.Path.{◌≡◌, ap}
use mathlib.Core.Bool.{true, false}
use Prim.Native.Nat.{◌*◌}
use native.Mathlib.Omega.{arith}
use lib.IntN.{nat_abs, pos}
use Rattle.amount.specs.Whole.{amount}
use Rattle.amount.proofs.Integers.{times_sign}
use Rattle.amount.proofs.Amount.times.Goals as goal
use Rattle.amount.proofs.Amount.times.Goals.{After-of-product}

product : (c : After-of-product) → c.of-product.result ≡ amount (pos (nat_abs c.args.self.value * c.args.n))
product c = rw (c.of-product.ensures, c.size.ensures)

pub returns-then-is_negative : goal.returns-then-is_negative
returns-then-is_negative c =
    let d = c.before.before.before in
    let a = d.args in
    rw (c.negated.ensures, product d) (ap amount (times_sign a.self.value a.n true (cc)))

pub returns-else-is_negative : goal.returns-else-is_negative
returns-else-is_negative c =
    let d = c.before.before in
    let a = d.args in
    rw (product d) (ap amount (times_sign a.self.value a.n false (cc)))

pub overflow_mul-size : goal.overflow_mul-size
overflow_mul-size c = rw c.size.ensures (omega arith)

pub of-product-requires : goal.of-product-requires
of-product-requires c = rw c.size.ensures c.requires

pub negated-requires : goal.negated-requires
negated-requires c = rw (product c.before.before) c.requires
