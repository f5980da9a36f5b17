-- The calls of crate named.
use Rattle.types.proofs.Once.{one_answer}
use Rattle.named.proofs.kinds as K
use Rattle.named.proofs.best as B
use Rattle.named.proofs.volume as Counted
use Rattle.named.proofs.ratio as Q
use Rattle.named.proofs.price as P
use Rattle.single.specs.One.{One}

-- the questions of one kind
module _ where
  pub best : One K.best.Reads.Learnt
  best κs a s t = one_answer _

  pub best_quote_lem : One K.best_quote.Reads.Learnt
  best_quote_lem κs a s t = one_answer _

  pub number : One K.number.Reads.Learnt
  number κs a s t = one_answer _

  pub side_number_lem : One K.side_number.Reads.Learnt
  side_number_lem κs a s t = one_answer _

  pub top_ratio_lem : One K.top_ratio.Reads.Learnt
  top_ratio_lem κs a s t = one_answer _

  pub volume_ratio_lem : One K.volume_ratio.Reads.Learnt
  volume_ratio_lem κs a s t = one_answer _

  pub trade_price_lem : One K.trade_price.Reads.Learnt
  trade_price_lem κs a s t = one_answer _

  pub flag : One K.flag.Reads.Learnt
  flag κs a s t = one_answer _

-- the best levels
module _ where
  pub best_bid : One B.best_bid.Reads.Learnt
  best_bid κs a s t = one_answer _

  pub best_ask : One B.best_ask.Reads.Learnt
  best_ask κs a s t = one_answer _

  pub best_price_lem : One B.best_price.Reads.Learnt
  best_price_lem κs a s t = one_answer _

  pub best_bid_price : One B.best_bid_price.Reads.Learnt
  best_bid_price κs a s t = one_answer _

  pub best_ask_price : One B.best_ask_price.Reads.Learnt
  best_ask_price κs a s t = one_answer _

  pub best_qty : One B.best_qty.Reads.Learnt
  best_qty κs a s t = one_answer _

  pub best_bid_qty : One B.best_bid_qty.Reads.Learnt
  best_bid_qty κs a s t = one_answer _

  pub best_ask_qty : One B.best_ask_qty.Reads.Learnt
  best_ask_qty κs a s t = one_answer _

  pub spread : One B.spread.Reads.Learnt
  spread κs a s t = one_answer _

  pub mid_price_lem : One B.mid_price.Reads.Learnt
  mid_price_lem κs a s t = one_answer _

  pub spread_pct_lem : One B.spread_pct.Reads.Learnt
  spread_pct_lem κs a s t = one_answer _

  pub spread_bps_lem : One B.spread_bps.Reads.Learnt
  spread_bps_lem κs a s t = one_answer _

  pub weighted_mid_lem : One B.weighted_mid.Reads.Learnt
  weighted_mid_lem κs a s t = one_answer _

  pub weighted_mid_price : One B.weighted_mid_price.Reads.Learnt
  weighted_mid_price κs a s t = one_answer _

  pub is_crossed_lem : One B.is_crossed.Reads.Learnt
  is_crossed_lem κs a s t = one_answer _

-- counts and quantities
module _ where
  pub level_count_lem : One Counted.level_count.Reads.Learnt
  level_count_lem κs a s t = one_answer _

  pub bid_count : One Counted.bid_count.Reads.Learnt
  bid_count κs a s t = one_answer _

  pub ask_count : One Counted.ask_count.Reads.Learnt
  ask_count κs a s t = one_answer _

  pub total_levels_lem : One Counted.total_levels.Reads.Learnt
  total_levels_lem κs a s t = one_answer _

  pub sequence : One Counted.sequence.Reads.Learnt
  sequence κs a s t = one_answer _

  pub is_empty_lem : One Counted.is_empty.Reads.Learnt
  is_empty_lem κs a s t = one_answer _

  pub depth_at_lem : One Counted.depth_at.Reads.Learnt
  depth_at_lem κs a s t = one_answer _

  pub has_price_lem : One Counted.has_price.Reads.Learnt
  has_price_lem κs a s t = one_answer _

  pub cumulative_depth_lem : One Counted.cumulative_depth.Reads.Learnt
  cumulative_depth_lem κs a s t = one_answer _

  pub tick_size_lem : One Counted.tick_size.Reads.Learnt
  tick_size_lem κs a s t = one_answer _

  pub total_volume_lem : One Counted.total_volume.Reads.Learnt
  total_volume_lem κs a s t = one_answer _

  pub total_bid_volume : One Counted.total_bid_volume.Reads.Learnt
  total_bid_volume κs a s t = one_answer _

  pub total_bid_depth : One Counted.total_bid_depth.Reads.Learnt
  total_bid_depth κs a s t = one_answer _

  pub total_ask_volume : One Counted.total_ask_volume.Reads.Learnt
  total_ask_volume κs a s t = one_answer _

  pub total_ask_depth : One Counted.total_ask_depth.Reads.Learnt
  total_ask_depth κs a s t = one_answer _

  pub cumulative_qty : One Counted.cumulative_qty.Reads.Learnt
  cumulative_qty κs a s t = one_answer _

  pub cumulative_bid_qty : One Counted.cumulative_bid_qty.Reads.Learnt
  cumulative_bid_qty κs a s t = one_answer _

  pub cumulative_ask_qty : One Counted.cumulative_ask_qty.Reads.Learnt
  cumulative_ask_qty κs a s t = one_answer _

-- ratios of the sides' quantities
module _ where
  pub imbalance : One Q.imbalance.Reads.Learnt
  imbalance κs a s t = one_answer _

  pub depth_imbalance : One Q.depth_imbalance.Reads.Learnt
  depth_imbalance κs a s t = one_answer _

  pub depth_ratio_lem : One Q.depth_ratio.Reads.Learnt
  depth_ratio_lem κs a s t = one_answer _

  pub bid_ask_ratio_lem : One Q.bid_ask_ratio.Reads.Learnt
  bid_ask_ratio_lem κs a s t = one_answer _

  pub ask_bid_ratio_lem : One Q.ask_bid_ratio.Reads.Learnt
  ask_bid_ratio_lem κs a s t = one_answer _

  pub bid_depth_skew_lem : One Q.bid_depth_skew.Reads.Learnt
  bid_depth_skew_lem κs a s t = one_answer _

-- the price of trading a target
module _ where
  pub vwap_for_qty_lem : One P.vwap_for_qty.Reads.Learnt
  vwap_for_qty_lem κs a s t = one_answer _

  pub price_impact_lem : One P.price_impact.Reads.Learnt
  price_impact_lem κs a s t = one_answer _

  pub price_at_volume_lem : One P.price_at_volume.Reads.Learnt
  price_at_volume_lem κs a s t = one_answer _
