-- The questions of a book, each by one definition over the levels of its sides, best first, in the numbers of docs/ANSWERS.md.
-- `bids` and `asks` are the levels of the sides; `ls` are the levels of one side. That the record is a book is tested above, by the book.
use Rattle.std.specs.Prelude.{ℕ, ◌+◌, ◌-◌, ◌*◌, Bool, not, cond, ◌&&◌, List, [], ◌∷◌, ◌++◌, eqb, leb, pos, ◌-ℤ◌, length, take, Option, Some, None}
use Rattle.types.specs.Limits.{is_price, is_quantity, max_volume}
use Rattle.types.specs.Replies.{Reply, done, refused, if_within, if_value}
use Rattle.types.specs.declared.Side.{Side}
use Rattle.types.specs.declared.PriceLevel.{PriceLevel}
use Rattle.types.specs.declared.Quote.{Quote}
use Rattle.quotient.specs.declared.Quotient.{Quotient}
use Rattle.quotient.specs.Over.{over, over_or_none}
use Rattle.levels.specs.Table.{prices_of}
use Rattle.walks.specs.Walk.{total_of, up_to, cost_of, reach_from, has, depth_of, gaps_of, least_of}
use Rattle.sides.specs.Best.{best_of, is_apart}

-- best_bid, best_ask: the best level of a side
unfoldable pub best_level : Option PriceLevel → Reply PriceLevel
best_level (Some l) = done l
best_level None = refused 10 []

-- what is made of both best levels, or 10 if a side is empty
unfoldable pub of_both : {A : Type 0} → (PriceLevel → PriceLevel → Reply A) → Option PriceLevel → Option PriceLevel → Reply A
of_both f (Some b) (Some a) = f b a
of_both f (Some b) None = refused 10 []
of_both f None a = refused 10 []

-- best_quote: the best bid and the best ask
abbrev pub quote_of : PriceLevel → PriceLevel → Reply Quote
quote_of b a = done (record { bid = b; ask = a })

-- spread: the best ask less the best bid
abbrev pub spread_of : PriceLevel → PriceLevel → Reply ℕ
spread_of b a = done (a.price - b.price)

-- mid_price: (bid + ask) over 2
abbrev pub mid_of : PriceLevel → PriceLevel → Reply Quotient
mid_of b a = done (over (pos (b.price + a.price)) 2)

-- spread_pct and spread_bps: 200 or 20000 times the spread, over (bid + ask)
abbrev pub spread_share_of : ℕ → PriceLevel → PriceLevel → Reply Quotient
spread_share_of times b a = over_or_none (pos (times * (a.price - b.price))) (b.price + a.price)

-- weighted_mid: bid·askqty + ask·bidqty over bidqty + askqty
abbrev pub weighted_mid_of : PriceLevel → PriceLevel → Reply Quotient
weighted_mid_of b a = over_or_none (pos (b.price * a.quantity + a.price * b.quantity)) (b.quantity + a.quantity)

-- depth_at: the quantity at a price
abbrev pub depth_at : ℕ → List PriceLevel → Reply ℕ
depth_at p ls = if_within (is_price p) (depth_of p ls)

-- has_price: whether a level has the price
abbrev pub has_price : ℕ → List PriceLevel → Reply Bool
has_price p ls = if_within (is_price p) (done (has p ls))

-- cumulative_depth: the quantity of the levels at a price or ahead of it
abbrev pub cumulative_depth : Side → ℕ → List PriceLevel → Reply ℕ
cumulative_depth s p ls = if_within (is_price p) (done (total_of (up_to s p ls)))

-- cumulative_bid_qty, cumulative_ask_qty: the quantity of the best n levels
abbrev pub best_total : ℕ → List PriceLevel → ℕ
best_total n ls = total_of (take n ls)

-- tick_size: the smallest gap between neighbours on either side
abbrev pub tick_size : List PriceLevel → List PriceLevel → Reply ℕ
tick_size bids asks = least_of (gaps_of (prices_of bids) ++ gaps_of (prices_of asks))

-- is_crossed: best bid at or above best ask, if both exist
abbrev pub is_crossed : List PriceLevel → List PriceLevel → Bool
is_crossed bids asks = not (is_apart (best_of bids) (best_of asks))

-- is_empty: no levels
abbrev pub is_empty : List PriceLevel → List PriceLevel → Bool
is_empty bids asks = eqb (length bids) 0 && eqb (length asks) 0

-- imbalance: the signed difference of two quantities over their sum
abbrev pub imbalance_of : ℕ → ℕ → Reply Quotient
imbalance_of b a = over_or_none (pos b -ℤ pos a) (b + a)

-- depth_ratio, ask_bid_ratio: one quantity over another
abbrev pub ratio_of : ℕ → ℕ → Reply Quotient
ratio_of x y = over_or_none (pos x) y

-- bid_ask_ratio: bid over ask, and 10 for a zero bid total too
abbrev pub bid_ask_ratio_of : ℕ → ℕ → Reply Quotient
bid_ask_ratio_of b a = if_value (not (eqb b 0)) (ratio_of b a)

-- bid_depth_skew: bid over both
abbrev pub skew_of : ℕ → ℕ → Reply Quotient
skew_of b a = over_or_none (pos b) (b + a)

-- the price of trading a target: the cost of filling it best first, over the target
abbrev pub price_of : ℕ → List PriceLevel → Quotient
price_of target ls = over (pos (cost_of target ls)) target

-- that price, if the levels can fill the target, else the refusal that stands in its place
abbrev pub price_or : Reply Quotient → ℕ → List PriceLevel → Reply Quotient
price_or short target ls = cond (leb target (total_of ls)) (done (price_of target ls)) short

-- vwap_for_qty: 0 over 1 for target 0; 7 exactly if the side's total is below the target
unfoldable pub vwap_of : ℕ → List PriceLevel → Reply Quotient
vwap_of target ls =
    if_within (is_quantity target) (cond (eqb target 0) (done (over (pos 0) 1)) (price_or (refused 7 (pos target ∷ [])) target ls))

-- price_impact: target 0 or too little depth gives 10
unfoldable pub impact_of : ℕ → List PriceLevel → Reply Quotient
impact_of target ls = if_within (is_quantity target) (if_value (not (eqb target 0)) (price_or (refused 10 []) target ls))

-- price_at_volume: the price at which the running total reaches the target, else the last level's; an empty side or target 0 gives 10
unfoldable pub volume_price_of : ℕ → List PriceLevel → Reply ℕ
volume_price_of target ls =
    if_within (leb target max_volume) (if_value (not (eqb (length ls) 0)) (if_value (not (eqb target 0)) (done (reach_from 0 target ls))))
