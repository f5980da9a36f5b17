-- One fill: cash, and what its position adds to the account, lose together what the fill's division leaves over, with the fill's sign.
use Prim.Native.Nat.{ℕ, zero, suc, ◌+◌, ◌*◌, min, zero-le, suc-le-suc}
use mathlib.Core.Path.{◌≡◌, refl}
use mathlib.Core.Bool.{Bool, true, false, cond}
use native.Mathlib.Nat.{le_refl, le_of_lt, min-eq_left, min-eq_right}
use native.Mathlib.Omega.{arith}
use borrow.Author.Tests.{eqb-true, ltb-true, ltb-false, le-ltb, lt-ltb}
use lib.Dec.{eqb, ltb}
use lib.IntN.{ℤ, pos, negsuc, neg_ℤ, nat_abs, ◌+ℤ◌, ◌-ℤ◌, ◌*ℤ◌}
use Rattle.amount.proofs.Identities.{as_difference, difference-same, ring}
use Rattle.types.specs.declared.Side.{Side}
use Rattle.types.specs.declared.Side.TheVariants.{Bid, Ask}
use Rattle.types.proofs.Booleans.{by}
use Rattle.holding.specs.Holding.{signed, grows, gain, closed_lots, average_after, remainder_after, position_after}
use Rattle.holding.specs.declared.Position.{Position}
use Rattle.holding.specs.declared.Fill.{Fill}
use Rattle.holding.proofs.Averages.{increase_exact}
use Rattle.position.specs.Ledger.{cash_after}
use Rattle.balance.specs.Balance.{at_average}

-- a position's part of the account
abbrev pub part_of : Position → ℤ
part_of p = at_average p -ℤ p.realized.value

-- what the fill's division leaves over, with the fill's sign
abbrev pub left_over : Position → Fill → ℤ
left_over p f =
    signed f.side (remainder_after (grows f.side p.quantity.value) (nat_abs p.quantity.value) p.average f.quantity f.price)

-- the identities: cash c, commission k, realized r; a lots at average v; n lots at price x
module _ (c k r : ℤ) (a n v x : ℕ) where
  -- an increase, whose division gives the average w and leaves m
  bought_more : (w m : ℕ) → w * (a + n) + m ≡ v * a + x * n
      → (c -ℤ (pos (n * x) +ℤ k)) +ℤ ((pos a +ℤ pos n) *ℤ pos w -ℤ ((r +ℤ (pos v -ℤ pos x) *ℤ pos 0) -ℤ k))
      ≡ (c +ℤ (pos a *ℤ pos v -ℤ r)) -ℤ pos m
  bought_more w m e = rw (as_difference c, as_difference k, as_difference r) (simp ring (omega (arith, difference-same, e)))

  sold_more : (w m : ℕ) → w * (a + n) + m ≡ v * a + x * n
      → (c -ℤ (neg_ℤ (pos (n * x)) +ℤ k)) +ℤ ((neg_ℤ (pos a) +ℤ neg_ℤ (pos n)) *ℤ pos w -ℤ ((r +ℤ (pos x -ℤ pos v) *ℤ pos 0) -ℤ k))
      ≡ (c +ℤ (neg_ℤ (pos a) *ℤ pos v -ℤ r)) -ℤ neg_ℤ (pos m)
  sold_more w m e = rw (as_difference c, as_difference k, as_difference r) (simp ring (omega (arith, difference-same, e)))

  -- a fill that closes o lots and gives the average w: the old one, none or the price
  bought_back : (o w : ℕ) → a * w + n * x + o * v ≡ n * w + a * v + o * x
      → (c -ℤ (pos (n * x) +ℤ k)) +ℤ ((neg_ℤ (pos a) +ℤ pos n) *ℤ pos w -ℤ ((r +ℤ (pos v -ℤ pos x) *ℤ pos o) -ℤ k))
      ≡ (c +ℤ (neg_ℤ (pos a) *ℤ pos v -ℤ r)) -ℤ pos 0
  bought_back o w e = rw (as_difference c, as_difference k, as_difference r) (simp ring (omega (arith, difference-same, e)))

  sold_off : (o w : ℕ) → a * w + n * x + o * v ≡ n * w + a * v + o * x
      → (c -ℤ (neg_ℤ (pos (n * x)) +ℤ k)) +ℤ ((pos a +ℤ neg_ℤ (pos n)) *ℤ pos w -ℤ ((r +ℤ (pos x -ℤ pos v) *ℤ pos o) -ℤ k))
      ≡ (c +ℤ (pos a *ℤ pos v -ℤ r)) -ℤ neg_ℤ (pos 0)
  sold_off o w e = rw (as_difference c, as_difference k, as_difference r) (simp ring (omega (arith, difference-same, e)))

-- what a fill that closes does to the average, by the lots that it closes
closing : (old v n x : ℕ) → let w = average_after false old v n x in old * w + n * x + min old n * v ≡ n * w + old * v + min old n * x
unfolding average_after
closing old v n x = cases (eqb n 0) (ltb n old) (eqb n old) refl refl refl
  where
    cases : (t u z : Bool) → eqb n 0 ≡ t → ltb n old ≡ u → eqb n old ≡ z
        → let w = cond t v (cond u v (cond z 0 x)) in old * w + n * x + min old n * v ≡ n * w + old * v + min old n * x
    cases true u z e f g = rw (eqb-true n 0 e, min-eq_right {n = 0} {m = old} zero-le) (omega arith)
    cases false true z e f g = rw (min-eq_right (le_of_lt (ltb-true n old f))) (omega arith)
    cases false false true e f g = rw (eqb-true n old g, min-eq_left (le_refl old)) (omega arith)
    cases false false false e f g = rw (min-eq_left (ltb-false n old f)) (omega arith)

pub closing_leaves_none : (old v n x : ℕ) → remainder_after false old v n x ≡ 0
unfolding remainder_after
closing_leaves_none old v n x = by (eqb n 0) (λ e. rw e) (λ e. rw e)

-- by side, and by the sign of the quantity
fill_moves : (s : Side) (q : ℤ) (v n x : ℕ) (c k r : ℤ)
    → let g = grows s q in
    let a = nat_abs q in
    (c -ℤ (signed s (n * x) +ℤ k)) +ℤ ((q +ℤ signed s n) *ℤ pos (average_after g a v n x) -ℤ ((r +ℤ gain s v x *ℤ pos (closed_lots g a n)) -ℤ k))
    ≡ (c +ℤ (q *ℤ pos v -ℤ r)) -ℤ signed s (remainder_after g a v n x)
fill_moves Bid (pos a) v n x c k r =
    rw (le-ltb a 0 zero-le) (bought_more c k r a n v x (average_after true a v n x) (remainder_after true a v n x) (increase_exact a v n x))
fill_moves Bid (negsuc a) v n x c k r =
    let b = suc a in
    rw (closing_leaves_none b v n x) (bought_back c k r b n v x (min b n) (average_after false b v n x) (closing b v n x))
fill_moves Ask (pos zero) v n x c k r = sold_more c k r 0 n v x (average_after true 0 v n x) (remainder_after true 0 v n x) (increase_exact 0 v n x)
fill_moves Ask (pos (suc a)) v n x c k r =
    let b = suc a in
    rw (lt-ltb 0 b (suc-le-suc zero-le), closing_leaves_none b v n x) (sold_off c k r b n v x (min b n) (average_after false b v n x) (closing b v n x))
fill_moves Ask (negsuc a) v n x c k r =
    let b = suc a in
    sold_more c k r b n v x (average_after true b v n x) (remainder_after true b v n x) (increase_exact b v n x)

pub filled_part : (p : Position) (f : Fill) (cash : ℤ) → cash_after cash f +ℤ part_of (position_after p f) ≡ (cash +ℤ part_of p) -ℤ left_over p f
unfolding position_after
filled_part p f cash = fill_moves f.side p.quantity.value p.average f.quantity f.price cash f.commission.value p.realized.value
