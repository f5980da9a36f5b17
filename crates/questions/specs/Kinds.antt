-- The questions of one kind as values, one clause a question: the question's definition of specs/Questions.antt.
use Rattle.std.specs.Prelude.{ℕ, Bool}
use Rattle.types.specs.Replies.{Reply}
use Rattle.types.specs.declared.Side.{Side}
use Rattle.quotient.specs.declared.Quotient.{Quotient}
use Rattle.asked.specs.declared.SideNumber.{SideNumber}
use Rattle.asked.specs.declared.SideNumber.TheVariants as N
use Rattle.asked.specs.declared.TopRatio.{TopRatio}
use Rattle.asked.specs.declared.TopRatio.TheVariants as T
use Rattle.asked.specs.declared.VolumeRatio.{VolumeRatio}
use Rattle.asked.specs.declared.VolumeRatio.TheVariants as R
use Rattle.asked.specs.declared.Trade.{Trade}
use Rattle.asked.specs.declared.Trade.TheVariants as P
use Rattle.orderbook.specs.declared.OrderBook.{OrderBook}
use Rattle.questions.specs.declared.kinds.BookNumber.{BookNumber}
use Rattle.questions.specs.declared.kinds.BookNumber.TheVariants as B
use Rattle.questions.specs.declared.kinds.BookFlag.{BookFlag}
use Rattle.questions.specs.declared.kinds.BookFlag.TheVariants as F
use Rattle.questions.specs.Questions as Q

-- a number of the whole book
abbrev pub book_number : BookNumber → OrderBook → Reply ℕ
book_number B.Spread b = Q.spread b
book_number B.TotalLevels b = Q.total_levels b
book_number B.Sequence b = Q.sequence_of b
book_number B.TickSize b = Q.tick_size b

-- a number of one side
abbrev pub side_number : Side → SideNumber → OrderBook → Reply ℕ
side_number s N.BestPrice b = Q.best_price_of s b
side_number s N.BestQuantity b = Q.best_quantity_of s b
side_number s (N.DepthAt p) b = Q.depth_at s p b
side_number s N.LevelCount b = Q.level_count s b
side_number s N.TotalVolume b = Q.total_volume s b
side_number s (N.CumulativeDepth p) b = Q.cumulative_depth s p b
side_number s (N.CumulativeQuantity k) b = Q.cumulative_quantity s k b
side_number s (N.PriceAtVolume target) b = Q.price_at_volume s target b

-- a ratio of both best levels
abbrev pub top_ratio : TopRatio → OrderBook → Reply Quotient
top_ratio T.MidPrice b = Q.mid_price b
top_ratio T.SpreadPct b = Q.spread_pct b
top_ratio T.SpreadBps b = Q.spread_bps b
top_ratio T.WeightedMid b = Q.weighted_mid b

-- a ratio of both sides' quantities
abbrev pub volume_ratio : VolumeRatio → OrderBook → Reply Quotient
volume_ratio R.Imbalance b = Q.imbalance b
volume_ratio (R.DepthRatio k) b = Q.depth_ratio k b
volume_ratio R.BidAskRatio b = Q.bid_ask_ratio b
volume_ratio R.AskBidRatio b = Q.ask_bid_ratio b
volume_ratio (R.BidDepthSkew k) b = Q.bid_depth_skew k b

-- the price of a trade
abbrev pub trade_price : Trade → Side → OrderBook → Reply Quotient
trade_price (P.VwapForQty target) s b = Q.vwap_for_qty s target b
trade_price (P.PriceImpact target) s b = Q.price_impact s target b

-- yes or no
abbrev pub book_flag : BookFlag → OrderBook → Reply Bool
book_flag (F.HasPrice s p) b = Q.has_price s p b
book_flag F.IsEmpty b = Q.is_empty b
book_flag F.IsCrossed b = Q.is_crossed b
