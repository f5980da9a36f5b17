-- The best level of a side, and whether two sides stand apart.
use Rattle.std.specs.Prelude.{Bool, true, List, [], ◌∷◌, ltb, Option, Some, None}
use Rattle.types.specs.declared.PriceLevel.{PriceLevel}

-- the first level, best first
unfoldable pub best_of : List PriceLevel → Option PriceLevel
best_of [] = None
best_of (l ∷ ls) = Some l

-- best bid < best ask, if both exist
unfoldable pub is_apart : Option PriceLevel → Option PriceLevel → Bool
is_apart (Some b) (Some a) = ltb b.price a.price
is_apart (Some b) None = true
is_apart None a = true
