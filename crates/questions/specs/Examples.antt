-- Every question computed: on book K, the book of the worked examples, on the empty book, and on a record that is no book, its best prices touching.
use Rattle.std.specs.Prelude.{◌≡◌, refl, true, false, [], ◌∷◌, pos}
use Rattle.types.specs.Replies.{done, refused}
use Rattle.types.specs.declared.Side.TheVariants.{Bid, Ask}
use Rattle.quotient.specs.Examples.{quotient}
use Rattle.quotient.specs.Over.{over, over_or_none}
use Rattle.levels.specs.Order.{leads, in_order}
use Rattle.levels.specs.Table.{level, table}
use Rattle.levels.specs.Formed.{every, well_formed}
use Rattle.walks.specs.Walk.{sum_of, up_to, cost_of, reach_from, has, depth_of, gaps_from, gaps_of, least_from, least_of}
use Rattle.sides.specs.Best.{best_of, is_apart}
use Rattle.sides.specs.Questions.{best_level, of_both, vwap_of, impact_of, volume_price_of}
use Rattle.orderbook.specs.declared.OrderBook.{OrderBook}
use Rattle.orderbook.specs.Book.{sides_fit, empty_book}
use Rattle.questions.specs.Questions.{best, best_price_of, best_quantity_of, best_quote, spread, mid_price, spread_pct, spread_bps, weighted_mid, depth_at, has_price, level_count, total_levels, sequence_of, is_empty, is_crossed, total_volume, cumulative_depth, cumulative_quantity, tick_size, imbalance, depth_ratio, bid_ask_ratio, ask_bid_ratio, bid_depth_skew, vwap_for_qty, price_impact, price_at_volume}
use Rattle.orderbook.specs.Examples.{book_k}

-- K: the best levels and what is made of them
pub tops :
    (best Bid (book_k 5) ≡ done (level 100 5)) ×
    (best Ask (book_k 5) ≡ done (level 101 4)) ×
    (best_price_of Bid (book_k 5) ≡ done 100) ×
    (best_price_of Ask (book_k 5) ≡ done 101) ×
    (best_quantity_of Bid (book_k 5) ≡ done 5) ×
    (best_quantity_of Ask (book_k 5) ≡ done 4) ×
    (best_quote (book_k 5) ≡ done (record { bid = level 100 5; ask = level 101 4 })) ×
    (spread (book_k 5) ≡ done 1) ×
    (mid_price (book_k 5) ≡ done (quotient 201 2)) ×
    (spread_pct (book_k 5) ≡ done (quotient 200 201)) ×
    (spread_bps (book_k 5) ≡ done (quotient 20000 201)) ×
    (weighted_mid (book_k 5) ≡ done (quotient 905 9)) ×
    (is_crossed (book_k 5) ≡ done false)
unfolding best best_price_of best_quantity_of best_quote spread mid_price spread_pct spread_bps weighted_mid is_crossed best_level of_both over_or_none sides_fit well_formed in_order leads every best_of is_apart over
tops = (refl, refl, refl, refl, refl, refl, refl, refl, refl, refl, refl, refl, refl)

-- K: counts and quantities; the bid at 99 has quantity 0, there is no bid at 97, and 0 is no price
pub volumes :
    (level_count Bid (book_k 5) ≡ done 3) ×
    (level_count Ask (book_k 5) ≡ done 2) ×
    (total_levels (book_k 5) ≡ done 5) ×
    (sequence_of (book_k 5) ≡ done 5) ×
    (is_empty (book_k 5) ≡ done false) ×
    (depth_at Bid 99 (book_k 5) ≡ done 0) ×
    (depth_at Bid 97 (book_k 5) ≡ refused 10 []) ×
    (depth_at Ask 103 (book_k 5) ≡ done 6) ×
    (depth_at Bid 0 (book_k 5) ≡ refused 2 []) ×
    (has_price Bid 99 (book_k 5) ≡ done true) ×
    (has_price Ask 99 (book_k 5) ≡ done false) ×
    (has_price Ask 100000001 (book_k 5) ≡ refused 2 []) ×
    (total_volume Bid (book_k 5) ≡ done 15) ×
    (total_volume Ask (book_k 5) ≡ done 10) ×
    (cumulative_depth Bid 98 (book_k 5) ≡ done 15) ×
    (cumulative_depth Ask 102 (book_k 5) ≡ done 4) ×
    (cumulative_depth Bid 0 (book_k 5) ≡ refused 2 []) ×
    (cumulative_quantity Bid 2 (book_k 5) ≡ done 5) ×
    (cumulative_quantity Ask 9 (book_k 5) ≡ done 10) ×
    (tick_size (book_k 5) ≡ done 1)
unfolding level_count total_levels sequence_of is_empty depth_at has_price total_volume cumulative_depth cumulative_quantity tick_size sum_of up_to has depth_of gaps_from gaps_of least_from least_of sides_fit well_formed in_order leads every best_of is_apart
volumes = (refl, refl, refl, refl, refl, refl, refl, refl, refl, refl, refl, refl, refl, refl, refl, refl, refl, refl, refl, refl)

-- K: ratios of the sides' quantities
pub ratios :
    (imbalance (book_k 5) ≡ done (quotient 5 25)) ×
    (depth_ratio 1 (book_k 5) ≡ done (quotient 5 4)) ×
    (depth_ratio 9 (book_k 5) ≡ done (quotient 15 10)) ×
    (depth_ratio 0 (book_k 5) ≡ refused 10 []) ×
    (bid_ask_ratio (book_k 5) ≡ done (quotient 15 10)) ×
    (ask_bid_ratio (book_k 5) ≡ done (quotient 10 15)) ×
    (bid_depth_skew 1 (book_k 5) ≡ done (quotient 5 9))
unfolding imbalance depth_ratio bid_ask_ratio ask_bid_ratio bid_depth_skew sum_of over_or_none sides_fit well_formed in_order leads every best_of is_apart over
ratios = (refl, refl, refl, refl, refl, refl, refl)

-- K: the price of a target by either path, of all the bids' lots, of one more, of none, and past the limit; the price reached
pub prices :
    (vwap_for_qty Bid 7 (book_k 5) ≡ done (quotient 696 7)) ×
    (price_impact Ask 7 (book_k 5) ≡ done (quotient 696 7)) ×
    (vwap_for_qty Ask 7 (book_k 5) ≡ done (quotient 713 7)) ×
    (price_impact Bid 7 (book_k 5) ≡ done (quotient 713 7)) ×
    (vwap_for_qty Bid 15 (book_k 5) ≡ done (quotient 1480 15)) ×
    (vwap_for_qty Bid 16 (book_k 5) ≡ refused 7 (pos 16 ∷ [])) ×
    (price_impact Ask 16 (book_k 5) ≡ refused 10 []) ×
    (vwap_for_qty Bid 0 (book_k 5) ≡ done (quotient 0 1)) ×
    (price_impact Ask 0 (book_k 5) ≡ refused 10 []) ×
    (vwap_for_qty Bid 1000000001 (book_k 5) ≡ refused 2 []) ×
    (price_impact Ask 1000000001 (book_k 5) ≡ refused 2 []) ×
    (price_at_volume Bid 5 (book_k 5) ≡ done 100) ×
    (price_at_volume Bid 6 (book_k 5) ≡ done 98) ×
    (price_at_volume Bid 99 (book_k 5) ≡ done 98) ×
    (price_at_volume Bid 0 (book_k 5) ≡ refused 10 []) ×
    (price_at_volume Bid 128000000001 (book_k 5) ≡ refused 2 [])
unfolding vwap_for_qty price_impact price_at_volume vwap_of impact_of volume_price_of sum_of cost_of reach_from sides_fit well_formed in_order leads every best_of is_apart over
prices = (refl, refl, refl, refl, refl, refl, refl, refl, refl, refl, refl, refl, refl, refl, refl, refl)

-- the empty book has no best levels, and is not crossed
pub empty-tops :
    (best Bid empty_book ≡ refused 10 []) ×
    (best_price_of Ask empty_book ≡ refused 10 []) ×
    (best_quantity_of Bid empty_book ≡ refused 10 []) ×
    (best_quote empty_book ≡ refused 10 []) ×
    (spread empty_book ≡ refused 10 []) ×
    (mid_price empty_book ≡ refused 10 []) ×
    (spread_pct empty_book ≡ refused 10 []) ×
    (spread_bps empty_book ≡ refused 10 []) ×
    (weighted_mid empty_book ≡ refused 10 []) ×
    (is_crossed empty_book ≡ done false)
unfolding best best_price_of best_quantity_of best_quote spread mid_price spread_pct spread_bps weighted_mid is_crossed best_level of_both over_or_none sides_fit well_formed in_order leads every best_of is_apart over
empty-tops = (refl, refl, refl, refl, refl, refl, refl, refl, refl, refl)

-- its counts and quantities are 0, and there is no gap
pub empty-volumes :
    (level_count Bid empty_book ≡ done 0) ×
    (total_levels empty_book ≡ done 0) ×
    (sequence_of empty_book ≡ done 0) ×
    (is_empty empty_book ≡ done true) ×
    (depth_at Ask 1 empty_book ≡ refused 10 []) ×
    (has_price Bid 1 empty_book ≡ done false) ×
    (total_volume Ask empty_book ≡ done 0) ×
    (cumulative_depth Bid 1 empty_book ≡ done 0) ×
    (cumulative_quantity Ask 5 empty_book ≡ done 0) ×
    (tick_size empty_book ≡ refused 10 [])
unfolding level_count total_levels sequence_of is_empty depth_at has_price total_volume cumulative_depth cumulative_quantity tick_size sum_of up_to has depth_of gaps_from gaps_of least_from least_of sides_fit well_formed in_order leads every best_of is_apart
empty-volumes = (refl, refl, refl, refl, refl, refl, refl, refl, refl, refl)

-- no ratio has a value
pub empty-ratios :
    (imbalance empty_book ≡ refused 10 []) ×
    (depth_ratio 5 empty_book ≡ refused 10 []) ×
    (bid_ask_ratio empty_book ≡ refused 10 []) ×
    (ask_bid_ratio empty_book ≡ refused 10 []) ×
    (bid_depth_skew 5 empty_book ≡ refused 10 [])
unfolding imbalance depth_ratio bid_ask_ratio ask_bid_ratio bid_depth_skew sum_of over_or_none sides_fit well_formed in_order leads every best_of is_apart over
empty-ratios = (refl, refl, refl, refl, refl)

-- nothing but a target of 0 can be filled
pub empty-prices :
    (vwap_for_qty Ask 0 empty_book ≡ done (quotient 0 1)) ×
    (vwap_for_qty Ask 1 empty_book ≡ refused 7 (pos 1 ∷ [])) ×
    (price_impact Bid 1 empty_book ≡ refused 10 []) ×
    (price_at_volume Bid 1 empty_book ≡ refused 10 [])
unfolding vwap_for_qty price_impact price_at_volume vwap_of impact_of volume_price_of sum_of cost_of reach_from sides_fit well_formed in_order leads every best_of is_apart over
empty-prices = (refl, refl, refl, refl)

-- a bid and an ask at one price: no book
abbrev touching : OrderBook
touching = record { bids = table (level 100 5 ∷ []); asks = table (level 100 4 ∷ []); sequence = 5 }

-- 1 answers every question of it, before any limit is looked at
pub not-a-book :
    (best Bid touching ≡ refused 1 []) ×
    (best Ask touching ≡ refused 1 []) ×
    (best_price_of Bid touching ≡ refused 1 []) ×
    (best_quantity_of Ask touching ≡ refused 1 []) ×
    (best_quote touching ≡ refused 1 []) ×
    (spread touching ≡ refused 1 []) ×
    (mid_price touching ≡ refused 1 []) ×
    (spread_pct touching ≡ refused 1 []) ×
    (spread_bps touching ≡ refused 1 []) ×
    (weighted_mid touching ≡ refused 1 []) ×
    (is_crossed touching ≡ refused 1 []) ×
    (level_count Bid touching ≡ refused 1 []) ×
    (total_levels touching ≡ refused 1 []) ×
    (sequence_of touching ≡ refused 1 []) ×
    (is_empty touching ≡ refused 1 []) ×
    (depth_at Bid 100 touching ≡ refused 1 []) ×
    (depth_at Bid 0 touching ≡ refused 1 []) ×
    (has_price Ask 100 touching ≡ refused 1 []) ×
    (total_volume Bid touching ≡ refused 1 []) ×
    (cumulative_depth Bid 100 touching ≡ refused 1 []) ×
    (cumulative_quantity Ask 1 touching ≡ refused 1 []) ×
    (tick_size touching ≡ refused 1 []) ×
    (imbalance touching ≡ refused 1 []) ×
    (depth_ratio 1 touching ≡ refused 1 []) ×
    (bid_ask_ratio touching ≡ refused 1 []) ×
    (ask_bid_ratio touching ≡ refused 1 []) ×
    (bid_depth_skew 1 touching ≡ refused 1 []) ×
    (vwap_for_qty Bid 1 touching ≡ refused 1 []) ×
    (vwap_for_qty Ask 1000000001 touching ≡ refused 1 []) ×
    (price_impact Bid 1 touching ≡ refused 1 []) ×
    (price_at_volume Ask 1 touching ≡ refused 1 [])
unfolding best best_price_of best_quantity_of best_quote spread mid_price spread_pct spread_bps weighted_mid is_crossed level_count total_levels sequence_of is_empty depth_at has_price total_volume cumulative_depth cumulative_quantity tick_size imbalance depth_ratio bid_ask_ratio ask_bid_ratio bid_depth_skew vwap_for_qty price_impact price_at_volume sides_fit well_formed in_order leads every best_of is_apart over
not-a-book = (refl, refl, refl, refl, refl, refl, refl, refl, refl, refl, refl, refl, refl, refl, refl, refl, refl, refl, refl, refl, refl, refl, refl, refl, refl, refl, refl, refl, refl, refl, refl)
