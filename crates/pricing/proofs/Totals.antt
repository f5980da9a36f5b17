-- Laws of the sums over the symbols: no sum comes near 2^63.
use Prim.Native.Nat.{ℕ, ◌≤◌, ◌<◌}
use mathlib.Core.Path.{◌≡◌}
use mathlib.Core.Bool.{true}
use mathlib.Core.List.{List}
use native.Mathlib.Nat.{lt_of_lt_of_le}
use native.Mathlib.Omega.{arith}
use lib.ListN.{get_or}
use lib.IntN.{nat_abs}
use Rattle.amount.specs.Sums.{sum_to}
use Rattle.amount.proofs.Sums.{sum_size}
use Rattle.holding.specs.Inner.Sizes.{PositionIn}
use Rattle.holding.specs.declared.Position.{Position}
use Rattle.pricing.specs.Prices.{are_prices, measured_at}
use Rattle.pricing.specs.declared.Measure.{Measure}
use Rattle.pricing.proofs.Measures.{prices_in, measured_size}

module _ (m : Measure) (held : ℕ → Position) (ps : List ℕ) (hl : (i : ℕ) → i < 32 → PositionIn (held i)) (hp : are_prices ps ≡ true) where
  pub term_size : (i : ℕ) → i < 32 → nat_abs (measured_at m held ps i) ≤ 100000000000000000
  term_size i h = measured_size m (held i) (get_or ps i 0) (hl i h) ((prices_in ps hp).each i h)

  pub total_size : (n : ℕ) → n ≤ 32 → nat_abs (sum_to (measured_at m held ps) n) ≤ 3200000000000000000
  total_size n h = omega (arith, sum_size (measured_at m held ps) 100000000000000000 n (λ i k. term_size i (lt_of_lt_of_le k h)))
