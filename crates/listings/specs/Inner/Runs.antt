-- A run of a side's levels: which they are, and where each stands in the rows.
use Rattle.std.specs.Prelude.{ℕ, ◌+◌, ◌-◌, cond, List, take, drop}
use Rattle.types.specs.Limits.{max_levels}
use Rattle.types.specs.declared.PriceLevel.{PriceLevel}
use Rattle.levels.specs.Table.{levels, rows}
use Rattle.listings.specs.declared.run.Run.{Run}
use Rattle.listings.specs.Listed.{turned}

-- every place of two rows as a level
abbrev pub every_place : List ℕ → List ℕ → List PriceLevel
every_place ps qs = levels (rows ps qs max_levels)

-- the levels of a run, in its order
abbrev pub in_run : Run → List PriceLevel → List PriceLevel
in_run r ls = cond r.turned (turned (take r.count (drop r.from ls))) (take r.count (drop r.from ls))

-- the place of the level behind i others
abbrev pub place_of : Run → ℕ → ℕ
place_of r i = cond r.turned (r.from + (r.count - 1 - i)) (r.from + i)
