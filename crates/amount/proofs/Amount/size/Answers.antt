-- `Amount::size`: below 0 the successor is one smaller in size, so that its negation fits; from 0 on a number is its size.
use mathlib.Core.Path.{◌≡◌}
use mathlib.Core.Bool.{true}
use Prim.Native.Nat.{◌+◌, ◌≤◌}
use native.Mathlib.Omega.{arith}
use lib.IntN.{ℤ, nat_abs, pos}
use lib.Signed.{lt_z, nat_abs-le}
use Rattle.amount.proofs.Integers.{negated_size, raised_size, raised_sign, not_negative}
use Rattle.amount.proofs.Amount.size.Goals as goal
use Rattle.amount.proofs.Amount.size.Goals.{After-raised, Start, Then-is_negative}

abbrev number : Start → ℤ
number s = s.args.self.value

held : (s : Start) → nat_abs (number s) ≤ 9223372036854775808
held s = nat_abs-le (number s) (omega arith)

is_below : (c : Then-is_negative) → lt_z (number c.before.before) (pos 0) ≡ true
is_below c = cc

one_less : (c : After-raised) → nat_abs c.raised.result.value + 1 ≡ nat_abs (number c.before.before.before)
one_less c = rw c.raised.ensures (raised_size (number c.before.before.before) (is_below c.before))

pub returns-then-is_negative : goal.returns-then-is_negative
returns-then-is_negative c =
    rw (c.unsigned.ensures, c.negated.ensures, negated_size c.raised.result.value) (one_less c.before.before)

pub negated-requires : goal.negated-requires
negated-requires c = omega (arith, one_less c, held c.before.before.before)

pub unsigned-requires : goal.unsigned-requires
unsigned-requires c = rw (c.negated.ensures, c.raised.ensures) (raised_sign (number c.before.before.before.before) (is_below c.before.before))

pub overflow_add-result : goal.overflow_add-result
overflow_add-result c = omega (arith, returns-then-is_negative c, held c.before.before.before.before.before)

pub unsigned-requires-else-is_negative : goal.unsigned-requires-else-is_negative
unsigned-requires-else-is_negative c = not_negative (number c.before.before) (cc)
