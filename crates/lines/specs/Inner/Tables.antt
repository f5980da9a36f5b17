-- What is asked of the tables that a snapshot is written from and read into.
use Rattle.std.specs.Prelude.{ℕ, ◌+◌, ◌*◌, ◌≤◌, ◌≡◌, List, length}
use Rattle.types.specs.Limits.{max_levels}
use Rattle.orderbook.specs.declared.OrderBook.{OrderBook}
use Rattle.orderbook.specs.Inner.Long.{Long}

-- a book's rows have 128 places, its counts are at most that, and its snapshot's line has room
pub record Room (b : OrderBook) (out : List ℕ) : Type 0 where
  pub long : Long b
  pub few_bids : b.bids.count ≤ max_levels
  pub few_asks : b.asks.count ≤ max_levels
  pub room : 25 + 16 * (b.bids.count + b.asks.count) ≤ length out

-- a line of n bytes is as long as its counts say, and they are at most 128
pub record CountsFit (n bids asks : ℕ) : Type 0 where
  pub few_bids : bids ≤ max_levels
  pub few_asks : asks ≤ max_levels
  pub long : n ≡ 25 + 16 * (bids + asks)
