-- The calls of crate listings.
use Rattle.types.proofs.Once.{one_answer}
use Rattle.listings.proofs as C
use Rattle.listings.proofs.named as N
use Rattle.listings.proofs.numbered as M
use Rattle.listings.proofs.Once.{one_left}
use Rattle.single.specs.One.{One, OneWith, OnePart, one_part}

-- the places, and the listing of a number
module _ where
  pub places_at : One C.places_at.Reads.Learnt
  places_at κs a s t = one_answer _

  pub places : One C.places.Reads.Learnt
  places κs a s t = one_answer _

  pub listing_of : One M.listing_of.Reads.Learnt
  listing_of κs a s t = one_answer _

-- the writers: the answer and the whole buffer, which is the last parameter
module _ where
  pub write_at : OneWith C.write_at.Reads.Learnt (λ κs s. s.1.1.0.now)
  write_at κs a s t x y = one_left _ x y _ _

  pub write : OneWith C.write.Reads.Learnt (λ κs s. s.1.1.0.now)
  write κs a s t x y = one_left _ x y _ _

-- the calls that hand back a part of the buffer
module _ where
  pub list : OnePart C.list.Reads.Learnt
  list κs a s t x y = one_part

  pub top_bids : OnePart N.top_bids.Reads.Learnt
  top_bids κs a s t x y = one_part

  pub bid_depth : OnePart N.bid_depth.Reads.Learnt
  bid_depth κs a s t x y = one_part

  pub top_n_bid_levels : OnePart N.top_n_bid_levels.Reads.Learnt
  top_n_bid_levels κs a s t x y = one_part

  pub top_asks : OnePart N.top_asks.Reads.Learnt
  top_asks κs a s t x y = one_part

  pub ask_depth : OnePart N.ask_depth.Reads.Learnt
  ask_depth κs a s t x y = one_part

  pub top_n_ask_levels : OnePart N.top_n_ask_levels.Reads.Learnt
  top_n_ask_levels κs a s t x y = one_part

  pub snapshot : OnePart N.snapshot.Reads.Learnt
  snapshot κs a s t x y = one_part

  pub price_levels_between : OnePart N.price_levels_between.Reads.Learnt
  price_levels_between κs a s t x y = one_part
