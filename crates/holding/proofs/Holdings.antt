-- Laws of one position: what its limits give, and the sizes of what a fill moves.
use Prim.Native.Nat.{ℕ, ◌+◌, ◌*◌, ◌/◌, ◌≤◌}
use mathlib.Core.Path.{◌≡◌, refl}
use mathlib.Core.Bool.{Bool, true, false, cond, and-eq-true_iff}
use native.Mathlib.Nat.{le_refl, le_trans, mul-le-mul, min-le_left, div-le_of_le-mul}
use native.Mathlib.Omega.{arith}
use borrow.Author.Tests.{leb-true, ltb-true, eqb-true}
use lib.Dec.{eqb, leb, ltb}
use lib.IntN.{pos, nat_abs, ◌*ℤ◌}
use Rattle.amount.proofs.Integers.{negated_size, add_size, sub_size, times_size}
use Rattle.types.specs.Limits.{sized_within, is_price, is_quantity, max_position, max_money, symbols}
use Rattle.types.specs.declared.Side.{Side}
use Rattle.types.specs.declared.Side.TheVariants.{Bid, Ask}
use Rattle.holding.specs.Holding.{is_average, is_position, is_fill, signed, gain, closed_lots, charge}
use Rattle.holding.specs.Inner.Sizes.{PositionIn, FillIn}
use Rattle.holding.specs.declared.Position.{Position}
use Rattle.holding.specs.declared.Fill.{Fill}

pub price_in : (x : ℕ) → is_price x ≡ true → x ≤ 100000000
price_in x h = leb-true x 100000000 ((and-eq-true_iff (leb 1 x) _).0 h).1

average_in : (size average : ℕ) → is_average size average ≡ true → average ≤ 100000000
average_in size average h = by (eqb size 0) h
  where
    by : (t : Bool) → cond t (eqb average 0) (is_price average) ≡ true → average ≤ 100000000
    by true h = omega (arith, eqb-true average 0 h)
    by false h = price_in average h

pub position_in : (p : Position) → is_position p ≡ true → PositionIn p
unfolding is_position
position_in p h =
    let a = (and-eq-true_iff (sized_within max_position p.quantity.value) _).0 h in
    let b = (and-eq-true_iff (sized_within max_money p.realized.value) _).0 a.1 in
    record {
      quantity_in = leb-true _ _ a.0;
      average_in = average_in (nat_abs p.quantity.value) p.average b.1;
      realized_in = leb-true _ _ b.0;
    }

pub fill_in : (f : Fill) → is_fill f ≡ true → FillIn f
unfolding is_fill
fill_in f h =
    let a = (and-eq-true_iff (ltb f.symbol symbols) _).0 h in
    let b = (and-eq-true_iff (is_quantity f.quantity) _).0 a.1 in
    let d = (and-eq-true_iff (is_price f.price) _).0 b.1 in
    record {
      symbol_in = ltb-true _ _ a.0;
      quantity_in = leb-true _ _ b.0;
      price_in = price_in f.price d.0;
      commission_in = leb-true _ _ d.1;
    }

pub cost_in : (f : Fill) → FillIn f → f.quantity * f.price ≤ 100000000000000000
cost_in f h = mul-le-mul h.quantity_in h.price_in

pub signed_size : (s : Side) (n : ℕ) → nat_abs (signed s n) ≡ n
signed_size Bid n = refl
signed_size Ask n = negated_size (pos n)

pub gain_size : (s : Side) (v x : ℕ) → nat_abs (gain s v x) ≤ v + x
gain_size Bid v x = sub_size (pos v) (pos x)
gain_size Ask v x = omega (arith, sub_size (pos x) (pos v))

pub closed_in : (g : Bool) (old n : ℕ) → closed_lots g old n ≤ old
closed_in true old n = omega arith
closed_in false old n = min-le_left old n

-- what the closed lots earn
module _ (g : Bool) (s : Side) {old v x : ℕ} (n : ℕ) (ho : old ≤ 1000000000) (hv : v ≤ 100000000) (hx : x ≤ 100000000) where
  pub earned_in : nat_abs (gain s v x) * closed_lots g old n ≤ 200000000000000000
  earned_in =
      let h : nat_abs (gain s v x) ≤ 200000000 = omega (arith, gain_size s v x) in
      mul-le-mul h (le_trans (closed_in g old n) ho)

  pub earned_size : nat_abs (gain s v x *ℤ pos (closed_lots g old n)) ≤ 200000000000000000
  earned_size = rw (times_size (gain s v x) (pos (closed_lots g old n))) earned_in

-- an average of prices is at most the largest
pub mixed_in : (v old x n m : ℕ) → v ≤ m → x ≤ m → (v * old + x * n) / (old + n) ≤ m
mixed_in v old x n m hv hx =
    div-le_of_le-mul (old + n) (omega (arith, mul-le-mul hv (le_refl old), mul-le-mul hx (le_refl n)))

-- what a fill takes from cash
pub charge_size : (f : Fill) → FillIn f → nat_abs (charge f) ≤ 101000000000000000
charge_size f h =
    let cost = f.quantity * f.price in
    omega (arith, add_size (signed f.side cost) f.commission.value, signed_size f.side cost, cost_in f h, h.commission_in)
