-- The minus sign, if there is one, then the digits.
use Rattle.std.proofs.Common.{ℕ, ◌+◌, ◌≤◌, Bool, true, ◌≡◌, List, [], ◌∷◌, ◌++◌, length}
use native.Mathlib.Omega.{arith}
use Rattle.decimals.specs.Decimals.{decimal, signed_decimal}
use Rattle.decimals.proofs.Digits.{minus-first, digits-alone}
use Rattle.decimals.proofs.Puts.{then, room}
use Rattle.decimals.proofs.put_whole.Goals as goal

-- room for the minus sign and the digits
both :
    (negative : Bool) (size at : ℕ) (o : List ℕ) → negative ≡ true → at + length (signed_decimal negative size) ≤ length o →
    at + length ((45 ∷ []) ++ decimal size) ≤ length o
both negative size at o e h = rw (minus-first negative size e) at h

pub put_byte-digits-requires : goal.put_byte-digits-requires
put_byte-digits-requires c = omega (arith, both c.args.negative c.args.size c.args.at c.args.out.now c.if-negative.true c.requires)

pub put_number-requires : goal.put_number-requires
put_number-requires c =
    room (45 ∷ []) c.args.out.now _ c.args.at _ (length (decimal c.args.size)) c.put_byte-digits.ensures
    (omega (arith, both c.args.negative c.args.size c.args.at c.args.out.now c.if-negative.true c.requires))

pub returns-then-negative : goal.returns-then-negative
returns-then-negative c =
    let b = c.put_byte-digits in
    let n = c.put_number in
    rw (minus-first c.args.negative c.args.size c.if-negative.true)
    (then (45 ∷ []) (decimal c.args.size) c.args.out.now _ _ c.args.at b.result n.result b.ensures n.ensures)

pub put_number-requires-2 : goal.put_number-requires-2
put_number-requires-2 c = rw (digits-alone c.args.negative c.args.size c.if-negative.false) at c.requires

pub returns : goal.returns
returns c = rw (digits-alone c.args.negative c.args.size c.if-negative.false) c.put_number-2.ensures
