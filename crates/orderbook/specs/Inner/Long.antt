-- Rows of 128 places: an array behind a reference has that length, and says so where it is viewed as a slice.
use Rattle.std.specs.Prelude.{◌≡◌, length}
use Rattle.types.specs.Limits.{max_levels}
use Rattle.orderbook.specs.declared.OrderBook.{OrderBook}

-- each row of a book has 128 places
pub record Long (b : OrderBook) : Type 0 where
  pub bid-prices : length b.bids.prices ≡ max_levels
  pub bid_quantities : length b.bids.quantities ≡ max_levels
  pub ask-prices : length b.asks.prices ≡ max_levels
  pub ask_quantities : length b.asks.quantities ≡ max_levels
