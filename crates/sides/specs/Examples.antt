-- Book K, the book of the worked examples: bids 100×5, 99×0, 98×10; asks 101×4, 103×6. What is answered of it, computed.
use Rattle.std.specs.Prelude.{◌≡◌, refl, true, false, List, [], ◌∷◌, pos}
use Rattle.types.specs.Replies.{done, refused}
use Rattle.types.specs.declared.Side.TheVariants.{Bid, Ask}
use Rattle.types.specs.declared.PriceLevel.{PriceLevel}
use Rattle.quotient.specs.Examples.{quotient}
use Rattle.quotient.specs.Over.{over, over_or_none}
use Rattle.levels.specs.Table.{level}
use Rattle.walks.specs.Walk.{sum_of, total_of, up_to, cost_of, reach_from, has, depth_of, gaps_from, gaps_of, least_from, least_of}
use Rattle.sides.specs.Best.{best_of, is_apart}
use Rattle.sides.specs.Questions.{best_level, of_both, quote_of, spread_of, mid_of, spread_share_of, weighted_mid_of, depth_at, has_price, cumulative_depth, best_total, tick_size, is_crossed, is_empty, imbalance_of, ratio_of, bid_ask_ratio_of, skew_of, vwap_of, impact_of, volume_price_of}

-- the bids of K, best first
abbrev bids : List PriceLevel
bids = level 100 5 ∷ level 99 0 ∷ level 98 10 ∷ []

-- the asks of K, best first
abbrev asks : List PriceLevel
asks = level 101 4 ∷ level 103 6 ∷ []

-- the best levels, the quote and what is made of both
pub tops :
    (best_level (best_of bids) ≡ done (level 100 5)) ×
    (best_level (best_of asks) ≡ done (level 101 4)) ×
    (of_both quote_of (best_of bids) (best_of asks) ≡ done (record { bid = level 100 5; ask = level 101 4 })) ×
    (is_crossed bids asks ≡ false) ×
    (is_empty bids asks ≡ false) ×
    (of_both spread_of (best_of bids) (best_of asks) ≡ done 1) ×
    (of_both mid_of (best_of bids) (best_of asks) ≡ done (quotient 201 2)) ×
    (of_both (spread_share_of 200) (best_of bids) (best_of asks) ≡ done (quotient 200 201)) ×
    (of_both (spread_share_of 20000) (best_of bids) (best_of asks) ≡ done (quotient 20000 201)) ×
    (of_both weighted_mid_of (best_of bids) (best_of asks) ≡ done (quotient 905 9))
unfolding best_of best_level is_apart of_both over_or_none over
tops = (refl, refl, refl, refl, refl, refl, refl, refl, refl, refl)

-- the quantities of the sides, and what is made of them
pub volumes :
    (total_of bids ≡ 15) ×
    (total_of asks ≡ 10) ×
    (best_total 2 bids ≡ 5) ×
    (imbalance_of (total_of bids) (total_of asks) ≡ done (quotient 5 25)) ×
    (ratio_of (total_of bids) (total_of asks) ≡ done (quotient 15 10)) ×
    (bid_ask_ratio_of (total_of bids) (total_of asks) ≡ done (quotient 15 10)) ×
    (ratio_of (total_of asks) (total_of bids) ≡ done (quotient 10 15)) ×
    (skew_of (total_of bids) (total_of asks) ≡ done (quotient 15 25))
unfolding sum_of over_or_none over
volumes = (refl, refl, refl, refl, refl, refl, refl, refl)

-- the price of trading 7 lots by either path, all the lots of a side, one more, none, and more than the limit
pub prices :
    (vwap_of 7 bids ≡ done (quotient 696 7)) ×
    (impact_of 7 bids ≡ done (quotient 696 7)) ×
    (vwap_of 7 asks ≡ done (quotient 713 7)) ×
    (impact_of 7 asks ≡ done (quotient 713 7)) ×
    (vwap_of 15 bids ≡ done (quotient 1480 15)) ×
    (vwap_of 16 bids ≡ refused 7 (pos 16 ∷ [])) ×
    (impact_of 16 bids ≡ refused 10 []) ×
    (vwap_of 0 bids ≡ done (quotient 0 1)) ×
    (impact_of 0 bids ≡ refused 10 []) ×
    (vwap_of 1000000001 bids ≡ refused 2 []) ×
    (impact_of 1000000001 bids ≡ refused 2 [])
unfolding vwap_of impact_of sum_of cost_of over
prices = (refl, refl, refl, refl, refl, refl, refl, refl, refl, refl, refl)

-- the price reached at a volume
pub reached :
    (volume_price_of 5 bids ≡ done 100) ×
    (volume_price_of 6 bids ≡ done 98) ×
    (volume_price_of 99 bids ≡ done 98) ×
    (volume_price_of 0 bids ≡ refused 10 []) ×
    (volume_price_of 5 [] ≡ refused 10 []) ×
    (volume_price_of 128000000001 [] ≡ refused 2 [])
unfolding volume_price_of reach_from
reached = (refl, refl, refl, refl, refl, refl)

-- quantities at and up to 99, which stands, 97, which does not, and 0, which is no price; the smallest gap
pub depths :
    (depth_at 99 bids ≡ done 0) ×
    (depth_at 97 bids ≡ refused 10 []) ×
    (depth_at 0 bids ≡ refused 2 []) ×
    (has_price 99 bids ≡ done true) ×
    (has_price 97 bids ≡ done false) ×
    (has_price 0 bids ≡ refused 2 []) ×
    (cumulative_depth Bid 99 bids ≡ done 5) ×
    (cumulative_depth Bid 97 bids ≡ done 15) ×
    (cumulative_depth Bid 0 bids ≡ refused 2 []) ×
    (cumulative_depth Ask 102 asks ≡ done 4) ×
    (tick_size bids asks ≡ done 1)
unfolding depth_of has up_to sum_of gaps_of gaps_from least_of least_from
depths = (refl, refl, refl, refl, refl, refl, refl, refl, refl, refl, refl)

-- empty sides
pub nothing :
    (best_level (best_of []) ≡ refused 10 []) ×
    (of_both spread_of (best_of bids) (best_of []) ≡ refused 10 []) ×
    (of_both mid_of (best_of []) (best_of asks) ≡ refused 10 []) ×
    (imbalance_of 0 0 ≡ refused 10 []) ×
    (ratio_of 0 10 ≡ done (quotient 0 10)) ×
    (bid_ask_ratio_of 0 10 ≡ refused 10 []) ×
    (skew_of 0 0 ≡ refused 10 []) ×
    (tick_size [] asks ≡ done 2) ×
    (tick_size [] [] ≡ refused 10 []) ×
    (is_empty [] [] ≡ true) ×
    (is_crossed [] asks ≡ false)
unfolding best_of best_level is_apart of_both over_or_none gaps_of gaps_from least_of least_from over
nothing = (refl, refl, refl, refl, refl, refl, refl, refl, refl, refl, refl)
