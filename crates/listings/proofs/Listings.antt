-- The plan of each listing takes what is listed.
use Prim.Native.Nat.{ℕ, zero, suc, ◌+◌, ◌-◌, ◌≤◌, min}
use native.Mathlib.Omega.{arith}
use native.Mathlib.Nat.{min-le_right}
use mathlib.Core.Path.{◌≡◌, refl, ap, sym, ◌∙◌}
use mathlib.Core.Bool.{false}
use mathlib.Core.List.{List, [], ◌∷◌, ◌++◌, append-nil}
use lib.ListN.{length, take, drop, length-take}
use lib.Seq.{length-take-le}
use Rattle.types.specs.Limits.{max_levels}
use Rattle.types.specs.Replies.{done, refused, if_within, map_reply}
use Rattle.types.specs.declared.Side.{Side}
use Rattle.types.specs.declared.Side.TheVariants.{Bid, Ask}
use Rattle.types.specs.declared.Refusal.TheVariants as R
use Rattle.types.specs.declared.PriceLevel.{PriceLevel}
use Rattle.types.proofs.Booleans.{by}
use Rattle.levels.specs.Order.{count_ahead}
use Rattle.levels.specs.Table.{prices_of}
use Rattle.levels.proofs.Tables.{levels-length, levels-prices}
use Rattle.deltas.specs.declared.Counts.{Counts}
use Rattle.orderbook.specs.declared.OrderBook.{OrderBook}
use Rattle.orderbook.specs.Book.{is_book, side_of, levels_of, bids_of, asks_of}
use Rattle.orderbook.proofs.Books.{Tested, sized}
use Rattle.listings.specs.declared.Listing.{Listing}
use Rattle.listings.specs.declared.Listing.TheVariants.{Top, Snapshot, Between}
use Rattle.listings.specs.Listed.{between, upward, is_range, listed, woven}
use Rattle.listings.specs.Inner.Runs.{every_place}
use Rattle.listings.specs.Inner.Plans.{none, best_runs, range_run, range_runs, Plans}
use Rattle.listings.proofs.Plans.{nothing_plans, taking-plans}
use Rattle.listings.proofs.Ranges.{range_order, between-count, outside_few, near, between_run}
use Rattle.listings.proofs.Runs.{side-run}

-- of a record that is no book nothing is listed
pub not_listed : (l : Listing) (b : OrderBook) → is_book b ≡ false → listed l b ≡ refused 1 []
unfolding listed
not_listed (Top s n) b h = rw h
not_listed (Snapshot n) b h = rw h
not_listed (Between s lo hi) b h = rw h

-- as many levels from the front as the best n are, are the best n
take_front : (n : ℕ) (ls : List PriceLevel) → take (min n (length ls)) ls ≡ take n ls
take_front n ls = ap (λ (k : ℕ). take k ls) (sym (length-take n ls)) ∙ counted n ls where
  counted : (n : ℕ) (ls : List PriceLevel) → take (length (take n ls)) ls ≡ take n ls
  counted zero ls = refl
  counted (suc n) [] = refl
  counted (suc n) (l ∷ ls) = rw (counted n ls)

-- the counts of a book
abbrev counts_of : OrderBook → Counts
counts_of b = record { bids = b.bids.count; asks = b.asks.count; sequence = b.sequence }

module _ {b : OrderBook} (t : Tested b) where
  -- every place of a side's rows
  abbrev places_on : Side → List PriceLevel
  places_on s = every_place (side_of s b).prices (side_of s b).quantities

  -- a run of a side's levels is the same run of them
  rows_run : (s : Side) (from k : ℕ) → from + k ≤ (side_of s b).count → take k (drop from (places_on s)) ≡ take k (drop from (levels_of s b))
  rows_run s from k h = side-run (side_of s b) (sized t s) (t.book.side s).few from k h

  best-run : (s : Side) (n : ℕ) → take (min n (side_of s b).count) (places_on s) ≡ take n (levels_of s b)
  best-run s n =
      let c = (side_of s b).count in
      rows_run s 0 (min n c) (omega (arith, min-le_right n c))
      ∙ ap (λ (k : ℕ). take (min n k) (levels_of s b)) (sym (levels-length (side_of s b) (sized t s) (t.book.side s).few))
      ∙ take_front n (levels_of s b)

  pub best_plans : (n m : ℕ) → Plans (done (woven (take n (bids_of b) ++ take m (asks_of b)))) b (best_runs n m (counts_of b))
  best_plans n m =
      let h : min n b.bids.count ≤ max_levels = omega (arith, min-le_right n b.bids.count, (t.book.side Bid).few) in
      let k : min m b.asks.count ≤ max_levels = omega (arith, min-le_right m b.asks.count, (t.book.side Ask).few) in
      taking-plans b t.long _ _ (omega arith) (omega arith) _ (rw (best-run Bid n, best-run Ask m))

  pub bids_plans : (n : ℕ) → Plans (done (woven (take n (bids_of b)))) b (best_runs n 0 (counts_of b))
  bids_plans n = rw append-nil at (best_plans n 0)

  module _ (lo hi : ℕ) where
    -- the prices of a side, and how many of them lie in the range
    abbrev prices_on : Side → List ℕ
    prices_on s = take (side_of s b).count (side_of s b).prices

    abbrev inside : Side → ℕ
    inside s = length (prices_on s) - (count_ahead Ask lo (prices_on s) + count_ahead Bid hi (prices_on s))

    all-prices : (s : Side) → length (prices_on s) ≡ (side_of s b).count
    all-prices s = length-take-le (side_of s b).count (side_of s b).prices (omega (arith, (sized t s).ps, (t.book.side s).few))

    -- they are a run, of the rows too
    near_few : (s : Side) (ps : List ℕ) → count_ahead s (near s lo hi) ps ≤ count_ahead Ask lo ps + count_ahead Bid hi ps
    near_few Bid ps = omega arith
    near_few Ask ps = omega arith

    near_fits : (s : Side) → lo ≤ hi → count_ahead s (near s lo hi) (prices_on s) + inside s ≤ (side_of s b).count
    near_fits s h = omega (arith, all-prices s, near_few s (prices_on s), outside_few lo hi h (prices_on s))

    range-run :
        (s : Side) → lo ≤ hi →
        take (inside s) (drop (count_ahead s (near s lo hi) (prices_on s)) (places_on s)) ≡ between lo hi (levels_of s b)
    range-run s h =
        let f = t.book.side s in
        let ls = levels_of s b in
        let e : prices_of ls ≡ prices_on s = levels-prices (side_of s b) (sized t s) f.few in
        let c = rw e at (between-count lo hi h ls) in
        let k : length (between lo hi ls) ≡ inside s = omega (arith, all-prices s, levels-length (side_of s b) (sized t s) f.few) in
        rows_run s (count_ahead s (near s lo hi) (prices_on s)) (inside s) (near_fits s h)
        ∙ rw (e, k) at (sym (between_run s lo hi ls f.order))

    range-taken :
        (s : Side) → lo ≤ hi →
        Plans (done (woven (upward s (between lo hi (levels_of s b))))) b
        (range_run s (count_ahead Ask lo (prices_on s)) (count_ahead Bid hi (prices_on s)) (length (prices_on s)))
    range-taken Bid h =
        taking-plans b t.long _ none (omega (arith, near_fits Bid h, (t.book.side Bid).few)) (omega arith) _ (rw (range-run Bid h, append-nil))
    range-taken Ask h =
        taking-plans b t.long none _ (omega arith) (omega (arith, near_fits Ask h, (t.book.side Ask).few)) _ (rw (range-run Ask h))

    pub range-plans :
        (s : Side) →
        Plans (map_reply woven (if_within (is_range lo hi) (done (upward s (between lo hi (levels_of s b)))))) b (range_runs s lo hi (prices_on s))
    range-plans s = by (is_range lo hi) (λ e. rw e (range-taken s (range_order lo hi e))) (λ e. rw e (nothing_plans b t.long R.OutOfLimits))
