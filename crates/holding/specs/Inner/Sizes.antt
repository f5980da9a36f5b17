-- The sizes in a position and in a fill, as the functions of this crate and of those over it ask for them.
use Rattle.std.specs.Prelude.{◌≤◌, ◌<◌, nat_abs}
use Rattle.holding.specs.declared.Position.{Position}
use Rattle.holding.specs.declared.Fill.{Fill}

-- a position
pub record PositionIn (p : Position) : Type 0 where
  pub quantity_in : nat_abs p.quantity.value ≤ 1000000000
  pub average_in : p.average ≤ 100000000
  pub realized_in : nat_abs p.realized.value ≤ 4000000000000000000

-- a fill
pub record FillIn (f : Fill) : Type 0 where
  pub symbol_in : f.symbol < 32
  pub quantity_in : f.quantity ≤ 1000000000
  pub price_in : f.price ≤ 100000000
  pub commission_in : nat_abs f.commission.value ≤ 1000000000000000
