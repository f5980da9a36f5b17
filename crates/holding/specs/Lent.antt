-- Positions that are lent to be read.
use Rattle.std.specs.Prelude.{ℕ, Bool}
use Rattle.holding.specs.Rows.{position_of, are_positions}
use Rattle.holding.specs.declared.Position.{Position}
use Rattle.holding.specs.declared.lent.PositionRows.{PositionRows}

-- the position of a symbol
abbrev pub position_in : PositionRows → ℕ → Position
position_in r = position_of r.quantities.now r.averages.now r.realized.now

-- each is within its limits
abbrev pub positions_in : PositionRows → Bool
positions_in r = are_positions r.quantities.now r.averages.now r.realized.now
