-- What rows, a best level and a row of prices are known to keep to, when they are a book's.
use Rattle.std.specs.Prelude.{ℕ, ◌≤◌, ◌≡◌, true, List, leb, length, take, Option, Some, None}
use Rattle.types.specs.declared.PriceLevel.{PriceLevel}
use Rattle.types.specs.Limits.{max_price, max_quantity, max_levels}
use Rattle.types.specs.declared.Side.{Side}
use Rattle.levels.specs.Order.{in_order}
use Rattle.levels.specs.Table.{levels, rows}
use Rattle.levels.specs.Lent.{levels_in}
use Rattle.levels.specs.declared.lent.SideRows.{SideRows}
use Rattle.levels.specs.Formed.{every, in_limits}

-- two rows of 128 places, of which the first n are levels within the limits
pub record Limited (p q : List ℕ) (n : ℕ) : Type 0 where
  pub long_prices : length p ≡ max_levels
  pub long_quantities : length q ≡ max_levels
  pub few : n ≤ max_levels
  pub limits : every in_limits (levels (rows p q n)) ≡ true

-- a side that is lent is a book's, as far as its numbers go: at most 128 levels, each within the limits
pub record OfBook (r : SideRows) : Type 0 where
  pub few : r.count ≤ max_levels
  pub limits : every in_limits (levels (levels_in r)) ≡ true

-- and its prices are in their side's order
pub record OfSide (s : Side) (r : SideRows) : Type 0 where
  pub known : OfBook r
  pub order : in_order s (take r.count r.prices.now) ≡ true

-- its price and its quantity are within their limits
abbrev pub BestFits : Option PriceLevel → Type 0
BestFits (Some l) = (l.price ≤ max_price) × (l.quantity ≤ max_quantity)
BestFits None = 0 ≤ 0

-- a side of at most 128 levels, none of whose prices is above the largest price
pub record PricesFit (r : SideRows) : Type 0 where
  pub few : r.count ≤ max_levels
  pub cheap : every (λ x. leb x max_price) (take r.count r.prices.now) ≡ true
