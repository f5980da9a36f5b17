-- `rows::total`: the sum so far is the definition's, and no sum of at most 32 terms comes near 2^63.
use mathlib.Core.Path.{◌≡◌}
use Rattle.amount.specs.Sums.{sum_to}
use Rattle.amount.specs.Whole.{amount}
use Rattle.holding.specs.Lent.{position_in}
use Rattle.pricing.specs.Prices.{measured_at}
use Rattle.pricing.proofs.rows.total.Given as goal

abbrev pub invariant-loop-i : goal.invariant-loop-i
invariant-loop-i l = l.sum ≡ amount (sum_to (measured_at l.measure (position_in l.positions) l.prices) l.i)
