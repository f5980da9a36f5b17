-- Laws of the prices given, and of what a position counts for at one.
use Prim.Native.Nat.{ℕ, ◌≤◌, ◌<◌}
use mathlib.Core.Path.{◌≡◌}
use mathlib.Core.Bool.{true, and-eq-true_iff}
use mathlib.Core.List.{List}
use native.Mathlib.Nat.{mul-le-mul}
use native.Mathlib.Omega.{arith}
use borrow.Author.Tests.{leb-true, eqb-true}
use lib.Dec.{eqb}
use lib.ListN.{get_or, length}
use lib.IntN.{ℤ, pos, neg_ℤ, nat_abs, ◌-ℤ◌, ◌*ℤ◌}
use Rattle.amount.proofs.Integers.{add_parts, one_part, size_parts, pos-above, pos-below, negated_above, negated_below, times_size}
use Rattle.amount.proofs.Identities.{as_difference, difference-same, ring}
use Rattle.amount.proofs.Sums.{all-at}
use Rattle.types.specs.Limits.{symbols}
use Rattle.holding.specs.Inner.Sizes.{PositionIn}
use Rattle.holding.specs.declared.Position.{Position}
use Rattle.pricing.specs.Prices.{is_price_at, are_prices, measured}
use Rattle.pricing.specs.declared.Measure.{Measure}
use Rattle.pricing.specs.declared.Measure.TheVariants.{Worth, Size, Profit}

-- what prices have
pub record PricesIn (ps : List ℕ) : Type 0 where
  pub many : length ps ≡ 32
  pub each : (i : ℕ) → i < 32 → get_or ps i 0 ≤ 100000000

pub prices_in : (ps : List ℕ) → are_prices ps ≡ true → PricesIn ps
unfolding are_prices
prices_in ps h =
    let a = (and-eq-true_iff (eqb (length ps) symbols) _).0 h in
    record { many = eqb-true _ _ a.0; each = λ i m. leb-true _ _ (all-at (is_price_at ps) 32 i m a.1) }

pub profit_apart : (q : ℤ) (x v : ℕ) → q *ℤ (pos x -ℤ pos v) ≡ q *ℤ pos x -ℤ q *ℤ pos v
profit_apart q x v = rw (as_difference q) (simp ring (omega (arith, difference-same)))

-- two prices differ by less than the largest
apart_in : (x v m : ℕ) → x ≤ m → v ≤ m → nat_abs (pos x -ℤ pos v) ≤ m
apart_in x v m hx hv =
    let d = pos x -ℤ pos v in
    omega (arith, size_parts d, one_part d, add_parts (pos x) (neg_ℤ (pos v)), pos-above x, pos-below x, negated_above (pos v), negated_below (pos v), pos-above v, pos-below v)

pub measured_size : (m : Measure) (p : Position) (x : ℕ) → PositionIn p → x ≤ 100000000 → nat_abs (measured m p x) ≤ 100000000000000000
measured_size Worth p x h hx = rw (times_size p.quantity.value (pos x)) (mul-le-mul h.quantity_in hx)
measured_size Size p x h hx = mul-le-mul h.quantity_in hx
measured_size Profit p x h hx =
    rw (times_size p.quantity.value (pos x -ℤ pos p.average))
    (mul-le-mul h.quantity_in (apart_in x p.average 100000000 hx h.average_in))
