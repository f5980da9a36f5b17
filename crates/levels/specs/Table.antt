-- A side as a list of levels, best first, and the table of 128 places that holds such a list.
use Rattle.std.specs.Prelude.{ℕ, ◌-◌, List, [], ◌∷◌, ◌++◌, map, length, take, replicate}
use Rattle.types.specs.Limits.{max_levels}
use Rattle.types.specs.declared.PriceLevel.{PriceLevel}
use Rattle.levels.specs.declared.Levels.{Levels}

-- the level of a price and a quantity
abbrev pub level : ℕ → ℕ → PriceLevel
level p q = record { price = p; quantity = q }

-- the prices of a list of levels
abbrev pub prices_of : List PriceLevel → List ℕ
prices_of ls = map (λ l. l.price) ls

-- the quantities of a list of levels
abbrev pub quantities_of : List PriceLevel → List ℕ
quantities_of ls = map (λ l. l.quantity) ls

-- prices and quantities, pair by pair, up to the end of the shorter
abbrev pub paired : List ℕ → List ℕ → List PriceLevel
paired [] qs = []
paired (p ∷ ps) [] = []
paired (p ∷ ps) (q ∷ qs) = level p q ∷ paired ps qs

-- the levels of a table, best first
abbrev pub levels : Levels → List PriceLevel
levels t = paired (take t.count t.prices) (take t.count t.quantities)

-- a row of 128 places: the numbers, and 0 in the unused places
abbrev pub padded : List ℕ → List ℕ
padded xs = xs ++ replicate (max_levels - length xs) 0

-- the table that holds the levels
abbrev pub table : List PriceLevel → Levels
table ls = record { prices = padded (prices_of ls); quantities = padded (quantities_of ls); count = length ls }

-- the table of two rows and a count
abbrev pub rows : List ℕ → List ℕ → ℕ → Levels
rows p q n = record { prices = p; quantities = q; count = n }
