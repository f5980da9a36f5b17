-- What a side of a book is held to.
use Rattle.std.specs.Prelude.{ℕ, Bool, true, ◌&&◌, List, [], ◌∷◌, leb, drop}
use Rattle.types.specs.Limits.{within, is_price, is_quantity, max_levels}
use Rattle.types.specs.declared.Side.{Side}
use Rattle.types.specs.declared.PriceLevel.{PriceLevel}
use Rattle.levels.specs.declared.Levels.{Levels}
use Rattle.levels.specs.Order.{in_order}
use Rattle.levels.specs.Table.{levels, prices_of}

-- the test holds of each
unfoldable pub every : {A : Type 0} → (A → Bool) → List A → Bool
every f [] = true
every f (x ∷ xs) = f x && every f xs

-- a level's values lie in the limits
abbrev pub in_limits : PriceLevel → Bool
in_limits l = is_price l.price && is_quantity l.quantity

-- unused places are 0
abbrev pub zeros : List ℕ → Bool
zeros xs = every (within 0 0) xs

-- at most 128 levels, bids strictly falling or asks strictly rising in price, all values in the limits, and unused places 0
unfoldable pub well_formed : Side → Levels → Bool
well_formed s t =
    leb t.count max_levels &&
    (in_order s (prices_of (levels t)) && (every in_limits (levels t) && (zeros (drop t.count t.prices) && zeros (drop t.count t.quantities))))
