-- `PositionRows::are_positions`: every position passed was within its limits.
use mathlib.Core.Path.{◌≡◌}
use mathlib.Core.Bool.{true}
use Rattle.amount.specs.Sums.{all_to}
use Rattle.holding.specs.Holding.{is_position}
use Rattle.holding.specs.Lent.{position_in}
use Rattle.holding.proofs.lent.PositionRows.are_positions.Given as goal

abbrev pub invariant-loop-i : goal.invariant-loop-i
invariant-loop-i l = all_to (λ i. is_position (position_in l.self i)) l.i ≡ true
