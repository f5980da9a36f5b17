-- What is asked of book K's sides and of a full side, by computation.
use Rattle.std.specs.Prelude.{◌≡◌, refl, true, false, Some, None, [], ◌∷◌, ◌++◌}
use Rattle.types.specs.Replies.{done, refused}
use Rattle.types.specs.declared.Side.TheVariants.{Bid, Ask}
use Rattle.levels.specs.Table.{level, prices_of}
use Rattle.levels.specs.Examples.{bids, asks, falling, full}
use Rattle.walks.specs.Walk.{sum_of, total_of, up_to, cost_of, fill_of, reach_from, has, depth_of, gaps_from, gaps_of, least_from, least_of}

-- lots in all
pub totals : (total_of bids ≡ 15) × (total_of asks ≡ 10) × (total_of full ≡ 384)
unfolding bids asks falling full sum_of
totals = (refl, refl, refl)

-- a level at the price itself counts
pub up_to_lem : (up_to Bid 99 bids ≡ level 100 5 ∷ level 99 0 ∷ []) × (up_to Ask 102 asks ≡ level 101 4 ∷ []) × (up_to Ask 100 asks ≡ [])
unfolding bids asks up_to
up_to_lem = (refl, refl, refl)

-- the cost of filling best first, and that one lot more than there is cannot be filled
pub costs :
    (cost_of 7 bids ≡ 696) ×
    (cost_of 7 asks ≡ 713) ×
    (cost_of 15 bids ≡ 1480) ×
    (cost_of 0 asks ≡ 0) ×
    (fill_of 15 bids ≡ Some 1480) ×
    (fill_of 16 bids ≡ None)
unfolding bids asks sum_of cost_of
costs = (refl, refl, refl, refl, refl, refl)

-- where the running total reaches a target, or the last price
pub reached : (reach_from 0 5 bids ≡ 100) × (reach_from 0 6 bids ≡ 98) × (reach_from 0 99 bids ≡ 98) × (reach_from 0 1 [] ≡ 0)
unfolding bids reach_from
reached = (refl, refl, refl, refl)

-- a price with quantity 0 is there
pub depths : (has 99 bids ≡ true) × (depth_of 99 bids ≡ done 0) × (has 97 bids ≡ false) × (depth_of 97 bids ≡ refused 10 [])
unfolding bids has depth_of
depths = (refl, refl, refl, refl)

-- gaps between neighbours, and the smallest on one side or on both
pub gaps :
    (gaps_of (prices_of bids) ≡ 1 ∷ 1 ∷ []) ×
    (least_of (gaps_of (prices_of asks)) ≡ done 2) ×
    (least_of (gaps_of (prices_of asks) ++ gaps_of (prices_of bids)) ≡ done 1) ×
    (least_of (gaps_of (prices_of (level 101 4 ∷ []))) ≡ refused 10 [])
unfolding bids asks gaps_from gaps_of least_from least_of
gaps = (refl, refl, refl, refl)
