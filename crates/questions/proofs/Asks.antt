-- The questions of one kind, once the record is tested: 1 of a record that is no book, and of a book what its sides answer.
use Prim.Native.Nat.{ℕ, ◌+◌}
use native.Mathlib.Omega.{arith}
use mathlib.Core.Path.{◌≡◌}
use mathlib.Core.Bool.{true, false, ◌&&◌}
use mathlib.Core.List.{[]}
use lib.Dec.{eqb}
use borrow.Author.Tests.{eqb-true, eqb-false, ne_eqb}
use lib.Seq.{take_all}
use Rattle.types.specs.Limits.{max_levels}
use Rattle.types.specs.Replies.{done, refused}
use Rattle.types.specs.declared.Side.{Side}
use Rattle.types.specs.declared.Side.TheVariants.{Bid, Ask}
use Rattle.types.proofs.Booleans.{by}
use Rattle.levels.proofs.Tables.{levels_few}
use Rattle.walks.specs.Walk.{total_of}
use Rattle.sides.specs.Best.{best_of}
use Rattle.sides.specs.Questions.{best_total}
use Rattle.asked.specs.Inner.Kinds as S
use Rattle.asked.specs.declared.SideNumber.{SideNumber}
use Rattle.asked.specs.declared.SideNumber.TheVariants as N
use Rattle.asked.specs.declared.TopRatio.{TopRatio}
use Rattle.asked.specs.declared.TopRatio.TheVariants as T
use Rattle.asked.specs.declared.VolumeRatio.{VolumeRatio}
use Rattle.asked.specs.declared.VolumeRatio.TheVariants as R
use Rattle.asked.specs.declared.Trade.{Trade}
use Rattle.asked.specs.declared.Trade.TheVariants as P
use Rattle.orderbook.specs.declared.OrderBook.{OrderBook}
use Rattle.questions.specs.declared.kinds.BookNumber.{BookNumber}
use Rattle.questions.specs.declared.kinds.BookNumber.TheVariants as B
use Rattle.questions.specs.declared.kinds.BookFlag.{BookFlag}
use Rattle.questions.specs.declared.kinds.BookFlag.TheVariants as F
use Rattle.orderbook.specs.Book.{is_book, side_of, levels_of, bids_of, asks_of}
use Rattle.questions.specs.Questions.{best, best_price_of, best_quantity_of, spread, mid_price, spread_pct, spread_bps, weighted_mid, depth_at, has_price, level_count, total_levels, sequence_of, is_empty, is_crossed, total_volume, cumulative_depth, cumulative_quantity, tick_size, imbalance, depth_ratio, bid_ask_ratio, ask_bid_ratio, bid_depth_skew, vwap_for_qty, price_impact, price_at_volume}
use Rattle.questions.specs.Kinds.{book_number, side_number, top_ratio, volume_ratio, trade_price, book_flag}
use Rattle.questions.specs.Inner.Walked.{walked_by}
use Rattle.orderbook.proofs.Books.{Book, a_book}

module _ (b : OrderBook) (h : is_book b ≡ false) where
  pub number-none : (q : BookNumber) → book_number q b ≡ refused 1 []
  unfolding spread total_levels sequence_of tick_size
  number-none B.Spread = rw h
  number-none B.TotalLevels = rw h
  number-none B.Sequence = rw h
  number-none B.TickSize = rw h

  pub side_none : (s : Side) (q : SideNumber) → side_number s q b ≡ refused 1 []
  unfolding best best_price_of best_quantity_of depth_at level_count total_volume cumulative_depth cumulative_quantity price_at_volume
  side_none s N.BestPrice = rw h
  side_none s N.BestQuantity = rw h
  side_none s (N.DepthAt p) = rw h
  side_none s N.LevelCount = rw h
  side_none s N.TotalVolume = rw h
  side_none s (N.CumulativeDepth p) = rw h
  side_none s (N.CumulativeQuantity k) = rw h
  side_none s (N.PriceAtVolume target) = rw h

  pub top_none : (q : TopRatio) → top_ratio q b ≡ refused 1 []
  unfolding mid_price spread_pct spread_bps weighted_mid
  top_none T.MidPrice = rw h
  top_none T.SpreadPct = rw h
  top_none T.SpreadBps = rw h
  top_none T.WeightedMid = rw h

  pub volume_none : (q : VolumeRatio) → volume_ratio q b ≡ refused 1 []
  unfolding imbalance depth_ratio bid_ask_ratio ask_bid_ratio bid_depth_skew
  volume_none R.Imbalance = rw h
  volume_none (R.DepthRatio k) = rw h
  volume_none R.BidAskRatio = rw h
  volume_none R.AskBidRatio = rw h
  volume_none (R.BidDepthSkew k) = rw h

  pub trade-none : (t : Trade) (s : Side) → trade_price t s b ≡ refused 1 []
  unfolding vwap_for_qty price_impact
  trade-none (P.VwapForQty target) s = rw h
  trade-none (P.PriceImpact target) s = rw h

  pub flag_none : (q : BookFlag) → book_flag q b ≡ refused 1 []
  unfolding has_price is_empty is_crossed
  flag_none (F.HasPrice s p) = rw h
  flag_none F.IsEmpty = rw h
  flag_none F.IsCrossed = rw h

-- two numbers are 0 exactly if their sum is
pub both_zero : (n m : ℕ) → eqb n 0 && eqb m 0 ≡ eqb (n + m) 0
both_zero n m =
    by (eqb n 0)
    (λ e. let z = eqb-true n 0 e in let f : n + m ≡ m = omega arith in rw (e, f))
    (λ e. let z = eqb-false n 0 e in rw (e, ne_eqb (n + m) 0 (λ k. z (omega arith))))

-- the best 128 levels of a side are all that it has
all : {b : OrderBook} → Book b → (s : Side) → best_total max_levels (levels_of s b) ≡ total_of (levels_of s b)
all {b} k s = rw (take_all max_levels (levels_of s b) (omega (arith, levels_few (side_of s b), (k.side s).few)))

module _ {b : OrderBook} (k : Book b) where
  pub side_asked : (s : Side) (q : SideNumber) → side_number s q b ≡ S.side_number s q (levels_of s b)
  unfolding best best_price_of best_quantity_of depth_at level_count total_volume cumulative_depth cumulative_quantity price_at_volume
  side_asked s N.BestPrice = rw k.is
  side_asked s N.BestQuantity = rw k.is
  side_asked s (N.DepthAt p) = rw k.is
  side_asked s N.LevelCount = rw k.is
  side_asked s N.TotalVolume = rw k.is
  side_asked s (N.CumulativeDepth p) = rw k.is
  side_asked s (N.CumulativeQuantity n) = rw k.is
  side_asked s (N.PriceAtVolume target) = rw k.is

  pub top_asked : (q : TopRatio) → top_ratio q b ≡ S.top_ratio q (best_of (bids_of b)) (best_of (asks_of b))
  unfolding mid_price spread_pct spread_bps weighted_mid
  top_asked T.MidPrice = rw k.is
  top_asked T.SpreadPct = rw k.is
  top_asked T.SpreadBps = rw k.is
  top_asked T.WeightedMid = rw k.is

  pub volume-asked :
      (q : VolumeRatio) → volume_ratio q b ≡ S.volume_ratio q (best_total (S.depth_of_ratio q max_levels) (bids_of b)) (best_total (S.depth_of_ratio q max_levels) (asks_of b))
  unfolding imbalance depth_ratio bid_ask_ratio ask_bid_ratio bid_depth_skew
  volume-asked R.Imbalance = rw (k.is, all k Bid, all k Ask)
  volume-asked (R.DepthRatio n) = rw k.is
  volume-asked R.BidAskRatio = rw (k.is, all k Bid, all k Ask)
  volume-asked R.AskBidRatio = rw (k.is, all k Bid, all k Ask)
  volume-asked (R.BidDepthSkew n) = rw k.is

  pub trade_asked : (t : Trade) (s : Side) → trade_price t s b ≡ S.trade_price t (levels_of (walked_by t s) b)
  unfolding vwap_for_qty price_impact
  trade_asked (P.VwapForQty target) s = rw k.is
  trade_asked (P.PriceImpact target) s = rw k.is

-- best bid < best ask in a book, so it is never crossed
pub never_crossed : (b : OrderBook) → is_book b ≡ true → is_crossed b ≡ done false
unfolding is_crossed
never_crossed b h = rw (h, (a_book b h).apart)
