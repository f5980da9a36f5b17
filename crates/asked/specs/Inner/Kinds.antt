-- The questions of one kind, each by its clause: the definition that sides/specs/Questions.antt gives it.
use Rattle.std.specs.Prelude.{ℕ, List, length, Option}
use Rattle.types.specs.Replies.{Reply, done, map_reply}
use Rattle.types.specs.declared.Side.{Side}
use Rattle.types.specs.declared.PriceLevel.{PriceLevel}
use Rattle.quotient.specs.declared.Quotient.{Quotient}
use Rattle.walks.specs.Walk.{total_of}
use Rattle.asked.specs.declared.SideNumber.{SideNumber}
use Rattle.asked.specs.declared.SideNumber.TheVariants as N
use Rattle.asked.specs.declared.TopRatio.{TopRatio}
use Rattle.asked.specs.declared.TopRatio.TheVariants as T
use Rattle.asked.specs.declared.VolumeRatio.{VolumeRatio}
use Rattle.asked.specs.declared.VolumeRatio.TheVariants as R
use Rattle.asked.specs.declared.Trade.{Trade}
use Rattle.asked.specs.declared.Trade.TheVariants as P
use Rattle.sides.specs.Best.{best_of}
use Rattle.sides.specs.Questions.{best_level, of_both, mid_of, spread_share_of, weighted_mid_of, depth_at, cumulative_depth, best_total, imbalance_of, ratio_of, bid_ask_ratio_of, skew_of, vwap_of, impact_of, volume_price_of}

-- a number of one side
abbrev pub side_number : Side → SideNumber → List PriceLevel → Reply ℕ
side_number s N.BestPrice ls = map_reply (λ l. l.price) (best_level (best_of ls))
side_number s N.BestQuantity ls = map_reply (λ l. l.quantity) (best_level (best_of ls))
side_number s (N.DepthAt p) ls = depth_at p ls
side_number s N.LevelCount ls = done (length ls)
side_number s N.TotalVolume ls = done (total_of ls)
side_number s (N.CumulativeDepth p) ls = cumulative_depth s p ls
side_number s (N.CumulativeQuantity k) ls = done (best_total k ls)
side_number s (N.PriceAtVolume target) ls = volume_price_of target ls

-- a ratio of both best levels
abbrev pub top_ratio : TopRatio → Option PriceLevel → Option PriceLevel → Reply Quotient
top_ratio T.MidPrice bid ask = of_both mid_of bid ask
top_ratio T.SpreadPct bid ask = of_both (spread_share_of 200) bid ask
top_ratio T.SpreadBps bid ask = of_both (spread_share_of 20000) bid ask
top_ratio T.WeightedMid bid ask = of_both weighted_mid_of bid ask

-- how many levels of each side a ratio of quantities takes, of all
abbrev pub depth_of_ratio : VolumeRatio → ℕ → ℕ
depth_of_ratio R.Imbalance all = all
depth_of_ratio (R.DepthRatio k) all = k
depth_of_ratio R.BidAskRatio all = all
depth_of_ratio R.AskBidRatio all = all
depth_of_ratio (R.BidDepthSkew k) all = k

-- a ratio of the quantities of those levels
abbrev pub volume_ratio : VolumeRatio → ℕ → ℕ → Reply Quotient
volume_ratio R.Imbalance b a = imbalance_of b a
volume_ratio (R.DepthRatio k) b a = ratio_of b a
volume_ratio R.BidAskRatio b a = bid_ask_ratio_of b a
volume_ratio R.AskBidRatio b a = ratio_of a b
volume_ratio (R.BidDepthSkew k) b a = skew_of b a

-- the price of a trade, on the levels that it walks
abbrev pub trade_price : Trade → List PriceLevel → Reply Quotient
trade_price (P.VwapForQty target) ls = vwap_of target ls
trade_price (P.PriceImpact target) ls = impact_of target ls
