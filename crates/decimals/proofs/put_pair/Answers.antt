-- Each piece is put behind the one before it, and there is room for all.
use Rattle.std.proofs.Common.{ℕ, ◌+◌, ◌≤◌, List, [], ◌∷◌, ◌++◌, length}
use native.Mathlib.Omega.{arith}
use Rattle.decimals.specs.Decimals.{decimal, pair, Puts}
use Rattle.decimals.proofs.Digits.{pair-length}
use Rattle.decimals.proofs.Puts.{then, room}
use Rattle.decimals.proofs.put_pair.Goals as goal

-- the room behind the first number
first :
    (a b : ℕ) {at m : ℕ} {o p : List ℕ} → at + length (pair a b) ≤ length o → Puts (decimal a) at o p m → m + (length (decimal b) + 2) ≤ length p
first a b {at} {m} {o} {p} h f = room (decimal a) o p at m (length (decimal b) + 2) f (omega (arith, h, pair-length a b))

-- and behind the space
space :
    (a b : ℕ) {at m n : ℕ} {o p q : List ℕ} → at + length (pair a b) ≤ length o → Puts (decimal a) at o p m → Puts (32 ∷ []) m p q n →
    n + (length (decimal b) + 1) ≤ length q
space a b {at} {m} {n} {o} {p} {q} h f s = room (32 ∷ []) p q m n (length (decimal b) + 1) s (omega (arith, first a b h f))

pub put_number-first-requires : goal.put_number-first-requires
put_number-first-requires c = omega (arith, c.requires, pair-length c.args.a c.args.b)

pub put_byte-space-requires : goal.put_byte-space-requires
put_byte-space-requires c = omega (arith, first c.args.a c.args.b c.requires c.put_number-first.ensures)

pub put_number-second-requires : goal.put_number-second-requires
put_number-second-requires c = omega (arith, space c.args.a c.args.b c.requires c.put_number-first.ensures c.put_byte-space.ensures)

pub put_byte-requires : goal.put_byte-requires
put_byte-requires c =
    let s = c.put_byte-space in
    room (decimal c.args.b) s.new.out _ s.result _ _ c.put_number-second.ensures (omega (arith, space c.args.a c.args.b c.requires c.put_number-first.ensures s.ensures))

pub returns : goal.returns
unfolding pair
returns c =
    let f = c.put_number-first in
    let s = c.put_byte-space in
    let n = c.put_number-second in
    let l = c.put_byte in
    let a = c.args in
    then (decimal a.a) (32 ∷ (decimal a.b ++ (10 ∷ []))) a.out.now f.new.out l.new.out a.at f.result l.result f.ensures
    (then (32 ∷ []) (decimal a.b ++ (10 ∷ [])) f.new.out s.new.out l.new.out f.result s.result l.result s.ensures
    (then (decimal a.b) (10 ∷ []) s.new.out n.new.out l.new.out s.result n.result l.result n.ensures l.ensures))
