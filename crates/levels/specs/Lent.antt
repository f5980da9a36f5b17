-- A side that is lent to be read, and its prices alone.
use Rattle.std.specs.Prelude.{ℕ, List, take}
use Rattle.levels.specs.Table.{rows}
use Rattle.levels.specs.declared.Levels.{Levels}
use Rattle.levels.specs.declared.lent.SideRows.{SideRows}
use Rattle.levels.specs.declared.ordered.Ordered.{Ordered}

-- the table that the rows and their count make
abbrev pub levels_in : SideRows → Levels
levels_in r = rows r.prices.now r.quantities.now r.count

-- the prices that are used, best first
abbrev pub prices_in : Ordered → List ℕ
prices_in o = take o.count o.prices.now
