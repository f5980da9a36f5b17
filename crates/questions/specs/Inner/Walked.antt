-- The side that a trade walks.
use Rattle.types.specs.declared.Side.{Side}
use Rattle.asked.specs.declared.Trade.{Trade}
use Rattle.asked.specs.declared.Trade.TheVariants.{VwapForQty, PriceImpact}
use Rattle.orderbook.specs.Book.{opposite}

-- vwap_for_qty walks its own side, price_impact the other one
abbrev pub walked_by : Trade → Side → Side
walked_by (VwapForQty target) s = s
walked_by (PriceImpact target) s = opposite s
