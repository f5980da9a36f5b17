-- One price on a book: for any quantity above zero, within its limits, that the asks can fill, vwap_for_qty on Ask and price_impact on Bid
-- give the same reply, the price of buying it: the cost of filling it from the asks best first, over the quantity. Likewise vwap_for_qty on
-- Bid and price_impact on Ask are the price of selling it to the bids.
use Rattle.std.specs.Prelude.{ℕ, ◌≤◌, ◌<◌, ◌≡◌, true}
use Rattle.types.specs.Limits.{max_quantity}
use Rattle.types.specs.Replies.{done}
use Rattle.types.specs.declared.Side.{Side}
use Rattle.types.specs.declared.Side.TheVariants.{Bid, Ask}
use Rattle.walks.specs.Walk.{total_of}
use Rattle.sides.specs.OnePrice as One
use Rattle.sides.specs.Questions.{price_of}
use Rattle.orderbook.specs.declared.OrderBook.{OrderBook}
use Rattle.orderbook.specs.Book.{is_book, opposite, levels_of, bids_of, asks_of}
use Rattle.questions.specs.Questions.{vwap_for_qty, price_impact}

module _ (b : OrderBook) (book : is_book b ≡ true) (target : ℕ) (some : 0 < target) (limit : target ≤ max_quantity) where
  -- the price of taking the target from a side's levels, by either path
  pub one-price : (s : Side) → target ≤ total_of (levels_of s b) → (vwap_for_qty s target b ≡ done (price_of target (levels_of s b))) × (price_impact (opposite s) target b ≡ done (price_of target (levels_of s b)))
  unfolding vwap_for_qty price_impact
  one-price Bid h = rw book (One.one-price target (bids_of b) some limit h)
  one-price Ask h = rw book (One.one-price target (asks_of b) some limit h)

  -- buying takes asks
  pub price_of_buying : target ≤ total_of (asks_of b) → (vwap_for_qty Ask target b ≡ done (price_of target (asks_of b))) × (price_impact Bid target b ≡ done (price_of target (asks_of b)))
  price_of_buying h = one-price Ask h

  -- selling takes bids
  pub price_of_selling : target ≤ total_of (bids_of b) → (vwap_for_qty Bid target b ≡ done (price_of target (bids_of b))) × (price_impact Ask target b ≡ done (price_of target (bids_of b)))
  price_of_selling h = one-price Bid h
