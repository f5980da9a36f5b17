-- A side's levels after Set and after Remove.
use Rattle.std.specs.Prelude.{ℕ, cond, List, [], ◌∷◌, eqb}
use Rattle.types.specs.declared.Side.{Side}
use Rattle.types.specs.declared.PriceLevel.{PriceLevel}
use Rattle.levels.specs.Order.{ahead_of}

-- Set puts the quantity at the price, 0 too: in the place of the level at that price, or before the first level that is behind it
unfoldable pub set_level : Side → PriceLevel → List PriceLevel → List PriceLevel
set_level s n [] = n ∷ []
set_level s n (l ∷ ls) = cond (eqb l.price n.price) (n ∷ ls) (cond (ahead_of s l.price n.price) (l ∷ set_level s n ls) (n ∷ l ∷ ls))

-- Remove takes the level at the price away; an absent price changes nothing
unfoldable pub remove_level : ℕ → List PriceLevel → List PriceLevel
remove_level p [] = []
remove_level p (l ∷ ls) = cond (eqb l.price p) ls (l ∷ remove_level p ls)
