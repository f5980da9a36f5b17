-- `rows::first_open`: no symbol passed has such a position.
use mathlib.Core.Path.{◌≡◌}
use Rattle.amount.specs.Sums.{first_to}
use Rattle.holding.specs.Lent.{position_in}
use Rattle.pricing.specs.Prices.{is_open_at}
use Rattle.pricing.proofs.rows.first_open.Given as goal

abbrev pub invariant-loop-i : goal.invariant-loop-i
invariant-loop-i l = first_to (is_open_at l.priced (position_in l.positions) l.prices) l.i ≡ l.i
