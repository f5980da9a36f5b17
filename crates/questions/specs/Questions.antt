-- Every question to a book: 1 of a record that is no book, else the definition over its levels.
use Rattle.std.specs.Prelude.{ℕ, ◌+◌, Bool, length}
use Rattle.types.specs.Replies.{Reply, done, map_reply}
use Rattle.types.specs.declared.Side.{Side}
use Rattle.types.specs.declared.Side.TheVariants.{Bid, Ask}
use Rattle.types.specs.declared.PriceLevel.{PriceLevel}
use Rattle.types.specs.declared.Quote.{Quote}
use Rattle.quotient.specs.declared.Quotient.{Quotient}
use Rattle.walks.specs.Walk.{total_of}
use Rattle.sides.specs.Best.{best_of}
use Rattle.sides.specs.Questions as Q
use Rattle.orderbook.specs.declared.OrderBook.{OrderBook}
use Rattle.orderbook.specs.Book.{of_book, opposite, levels_of, bids_of, asks_of}

-- best_bid, best_ask
unfoldable pub best : Side → OrderBook → Reply PriceLevel
best s b = of_book b (Q.best_level (best_of (levels_of s b)))

-- best_bid_price, best_ask_price
unfoldable pub best_price_of : Side → OrderBook → Reply ℕ
best_price_of s b = map_reply (λ l. l.price) (best s b)

-- best_bid_qty, best_ask_qty
unfoldable pub best_quantity_of : Side → OrderBook → Reply ℕ
best_quantity_of s b = map_reply (λ l. l.quantity) (best s b)

-- what is made of both best levels
abbrev pub of_best : {A : Type 0} → (PriceLevel → PriceLevel → Reply A) → OrderBook → Reply A
of_best f b = of_book b (Q.of_both f (best_of (bids_of b)) (best_of (asks_of b)))

-- best_quote
unfoldable pub best_quote : OrderBook → Reply Quote
best_quote b = of_best Q.quote_of b

-- spread
unfoldable pub spread : OrderBook → Reply ℕ
spread b = of_best Q.spread_of b

-- mid_price
unfoldable pub mid_price : OrderBook → Reply Quotient
mid_price b = of_best Q.mid_of b

-- spread_pct
unfoldable pub spread_pct : OrderBook → Reply Quotient
spread_pct b = of_best (Q.spread_share_of 200) b

-- spread_bps
unfoldable pub spread_bps : OrderBook → Reply Quotient
spread_bps b = of_best (Q.spread_share_of 20000) b

-- weighted_mid, weighted_mid_price
unfoldable pub weighted_mid : OrderBook → Reply Quotient
weighted_mid b = of_best Q.weighted_mid_of b

-- depth_at
unfoldable pub depth_at : Side → ℕ → OrderBook → Reply ℕ
depth_at s p b = of_book b (Q.depth_at p (levels_of s b))

-- has_price
unfoldable pub has_price : Side → ℕ → OrderBook → Reply Bool
has_price s p b = of_book b (Q.has_price p (levels_of s b))

-- bid_count, ask_count, level_count
unfoldable pub level_count : Side → OrderBook → Reply ℕ
level_count s b = of_book b (done (length (levels_of s b)))

-- total_levels
unfoldable pub total_levels : OrderBook → Reply ℕ
total_levels b = of_book b (done (length (bids_of b) + length (asks_of b)))

-- sequence
unfoldable pub sequence_of : OrderBook → Reply ℕ
sequence_of b = of_book b (done b.sequence)

-- is_empty
unfoldable pub is_empty : OrderBook → Reply Bool
is_empty b = of_book b (done (Q.is_empty (bids_of b) (asks_of b)))

-- is_crossed
unfoldable pub is_crossed : OrderBook → Reply Bool
is_crossed b = of_book b (done (Q.is_crossed (bids_of b) (asks_of b)))

-- total_bid_volume, total_ask_volume, total_bid_depth, total_ask_depth
unfoldable pub total_volume : Side → OrderBook → Reply ℕ
total_volume s b = of_book b (done (total_of (levels_of s b)))

-- cumulative_depth
unfoldable pub cumulative_depth : Side → ℕ → OrderBook → Reply ℕ
cumulative_depth s p b = of_book b (Q.cumulative_depth s p (levels_of s b))

-- cumulative_bid_qty, cumulative_ask_qty
unfoldable pub cumulative_quantity : Side → ℕ → OrderBook → Reply ℕ
cumulative_quantity s n b = of_book b (done (Q.best_total n (levels_of s b)))

-- tick_size
unfoldable pub tick_size : OrderBook → Reply ℕ
tick_size b = of_book b (Q.tick_size (bids_of b) (asks_of b))

-- what is made of both sides' total quantities
abbrev pub of_totals : (ℕ → ℕ → Reply Quotient) → OrderBook → Reply Quotient
of_totals f b = of_book b (f (total_of (bids_of b)) (total_of (asks_of b)))

-- what is made of the quantities of both sides' best n levels
abbrev pub of_best_totals : (ℕ → ℕ → Reply Quotient) → ℕ → OrderBook → Reply Quotient
of_best_totals f n b = of_book b (f (Q.best_total n (bids_of b)) (Q.best_total n (asks_of b)))

-- imbalance, depth_imbalance
unfoldable pub imbalance : OrderBook → Reply Quotient
imbalance b = of_totals Q.imbalance_of b

-- depth_ratio
unfoldable pub depth_ratio : ℕ → OrderBook → Reply Quotient
depth_ratio n b = of_best_totals Q.ratio_of n b

-- bid_ask_ratio
unfoldable pub bid_ask_ratio : OrderBook → Reply Quotient
bid_ask_ratio b = of_totals Q.bid_ask_ratio_of b

-- ask_bid_ratio
unfoldable pub ask_bid_ratio : OrderBook → Reply Quotient
ask_bid_ratio b = of_totals (λ bid ask. Q.ratio_of ask bid) b

-- bid_depth_skew
unfoldable pub bid_depth_skew : ℕ → OrderBook → Reply Quotient
bid_depth_skew n b = of_best_totals Q.skew_of n b

-- vwap_for_qty: Bid walks bids
unfoldable pub vwap_for_qty : Side → ℕ → OrderBook → Reply Quotient
vwap_for_qty s target b = of_book b (Q.vwap_of target (levels_of s b))

-- price_impact: Bid walks asks, Ask walks bids
unfoldable pub price_impact : Side → ℕ → OrderBook → Reply Quotient
price_impact s target b = of_book b (Q.impact_of target (levels_of (opposite s) b))

-- price_at_volume
unfoldable pub price_at_volume : Side → ℕ → OrderBook → Reply ℕ
price_at_volume s target b = of_book b (Q.volume_price_of target (levels_of s b))
