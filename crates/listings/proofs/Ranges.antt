-- The levels from lo to hi are a run of the side: how many they are, and where they begin.
use Prim.Native.Nat.{ℕ, ◌+◌, ◌-◌, ◌≤◌}
use native.Mathlib.Omega.{arith}
use native.Mathlib.Nat.{add_comm}
use mathlib.Core.Path.{◌≡◌, refl, ap, sym}
use mathlib.Core.Bool.{Bool, true, false, and-eq-true_iff}
use mathlib.Core.List.{List, [], ◌∷◌, map}
use lib.Dec.{leb, ltb}
use lib.ListN.{length, take, drop, length-map}
use borrow.Author.Tests.{ltb-true, ltb-false, leb-true, le-ltb, le-leb, lt-leb}
use Rattle.types.specs.Limits.{within, is_price}
use Rattle.types.specs.declared.Side.{Side}
use Rattle.types.specs.declared.Side.TheVariants.{Bid, Ask}
use Rattle.types.specs.declared.PriceLevel.{PriceLevel}
use Rattle.types.proofs.Booleans.{by}
use Rattle.levels.specs.Order.{ahead_of, leads, in_order, count_ahead, place_from}
use Rattle.levels.specs.Inner.Found.{ahead_in, reached_in}
use Rattle.levels.specs.Table.{level, prices_of}
use Rattle.levels.proofs.Orders.{ahead_trans, ordered, none_ahead}
use Rattle.levels.proofs.Found.{reached_few, ahead_found, behind_found}
use Rattle.listings.specs.Listed.{between, is_range}
use Rattle.listings.specs.Inner.Plans.{run, none, taking, run_between, range_runs}

-- the test of a range's ends
pub range_order : (lo hi : ℕ) → is_range lo hi ≡ true → lo ≤ hi
range_order lo hi h = leb-true lo hi ((and-eq-true_iff (is_price hi) (leb lo hi)).0 ((and-eq-true_iff (is_price lo) _).0 h).1).1

-- below lo, above hi, or between them
pub between-count :
    (lo hi : ℕ) → lo ≤ hi → (ls : List PriceLevel) →
    count_ahead Ask lo (prices_of ls) + count_ahead Bid hi (prices_of ls) + length (between lo hi ls) ≡ length ls
unfolding count_ahead between
between-count lo hi h [] = refl
between-count lo hi h (l ∷ ls) =
    let r = between-count lo hi h ls in
    by (ltb l.price lo)
    (λ e. let u = ltb-true l.price lo e in rw (e, le-ltb hi l.price (omega arith), lt-leb lo l.price u) (omega arith))
    (λ e.
    let u = ltb-false l.price lo e in
    by (ltb hi l.price)
    (λ f. rw (e, f, le-leb lo l.price u, lt-leb l.price hi (ltb-true _ _ f)) (omega arith))
    (λ f. rw (e, f, le-leb lo l.price u, le-leb l.price hi (ltb-false _ _ f)) (omega arith)))

-- so of any prices those below and those above are not more than all
with-prices : (ps : List ℕ) → prices_of (map (λ p. level p 0) ps) ≡ ps
with-prices [] = refl
with-prices (p ∷ ps) = rw (with-prices ps)

pub outside_few : (lo hi : ℕ) → lo ≤ hi → (ps : List ℕ) → count_ahead Ask lo ps + count_ahead Bid hi ps ≤ length ps
outside_few lo hi h ps =
    let ls = map (λ p. level p 0) ps in
    let e = rw (with-prices ps, length-map ps (λ p. level p 0)) at (between-count lo hi h ls) in
    omega arith

-- the places of the two ends say behind how many a run begins, and how many lie between; o is the other side
run-found :
    (s o : Side) → ((a b : ℕ) → ahead_of o a b ≡ ahead_of s b a) → (first last : ℕ) (turned : Bool) (ps : List ℕ) → in_order s ps ≡ true →
    (k : ℕ) → k ≡ count_ahead o last ps + count_ahead s first ps →
    run_between s first last turned ps ≡ run (count_ahead s first ps) (length ps - k) turned
run-found s o turn first last turned ps h k e =
    let d : reached_in (place_from s last 0 ps) - count_ahead s first ps ≡ length ps - k = omega (arith, behind_found s o turn last ps h) in
    rw (sym (ahead_found s first ps h), d)

module _ (s : Side) (lo hi : ℕ) (ps : List ℕ) (h : in_order s ps ≡ true) (r : is_range lo hi ≡ true) where
  pub bids_found : s ≡ Bid → taking (run_between s hi lo true ps) none ≡ range_runs s lo hi ps
  bids_found e = rw (e, r) (ap (λ b. taking b none) (run-found Bid Ask (λ a b. refl) hi lo true ps (rw e at h) _ refl))

  pub asks_found : s ≡ Ask → taking none (run_between s lo hi false ps) ≡ range_runs s lo hi ps
  asks_found e = rw (e, r) (ap (λ a. taking none a) (run-found Ask Bid (λ a b. refl) lo hi false ps (rw e at h) _ (add_comm (count_ahead Ask lo ps) (count_ahead Bid hi ps))))

-- the run is not longer than the row, and it does not end before it begins
pub run-few :
    (s : Side) (first last : ℕ) (xs : List ℕ) (n : ℕ) → reached_in (place_from s last 0 (take n xs)) - ahead_in (place_from s first 0 (take n xs)) ≤ n
run-few s first last xs n = omega (arith, reached_few s last xs n)

pub ends-apart :
    (s : Side) (first last : ℕ) (ps : List ℕ) → in_order s ps ≡ true → ahead_of s last first ≡ false →
    ahead_in (place_from s first 0 ps) ≤ reached_in (place_from s last 0 ps)
ends-apart Bid first last ps h e =
    omega (arith, outside_few last first (ltb-false _ _ e) ps, ahead_found Bid first ps h, behind_found Bid Ask (λ a b. refl) last ps h)
ends-apart Ask first last ps h e =
    omega (arith, outside_few first last (ltb-false _ _ e) ps, ahead_found Ask first ps h, behind_found Ask Bid (λ a b. refl) last ps h)

-- the ends of a range, the one that comes first on a side and the one that comes last
abbrev pub near : Side → ℕ → ℕ → ℕ
near Bid lo hi = hi
near Ask lo hi = lo

abbrev far : Side → ℕ → ℕ → ℕ
far Bid lo hi = lo
far Ask lo hi = hi

-- a price by the two ends
before-near : (s : Side) (lo hi p : ℕ) → ahead_of s p (near s lo hi) ≡ true → within lo hi p ≡ false
before-near Bid lo hi p e = by (leb lo p) (λ t. rw (t, lt-leb p hi (ltb-true _ _ e))) (λ t. rw t)
before-near Ask lo hi p e = rw (lt-leb lo p (ltb-true _ _ e))

behind-far : (s : Side) (lo hi p : ℕ) → ahead_of s (far s lo hi) p ≡ true → within lo hi p ≡ false
behind-far Bid lo hi p e = rw (lt-leb lo p (ltb-true _ _ e))
behind-far Ask lo hi p e = by (leb lo p) (λ t. rw (t, lt-leb p hi (ltb-true _ _ e))) (λ t. rw t)

from_near : (s : Side) (lo hi p : ℕ) → ahead_of s p (near s lo hi) ≡ false → ahead_of s (far s lo hi) p ≡ false → within lo hi p ≡ true
from_near Bid lo hi p e f = rw (le-leb lo p (ltb-false _ _ f), le-leb p hi (ltb-false _ _ e))
from_near Ask lo hi p e f = rw (le-leb lo p (ltb-false _ _ e), le-leb p hi (ltb-false _ _ f))

module _ (s : Side) (lo hi : ℕ) where
  -- behind a price beyond the far end all are
  none-behind :
      (l : PriceLevel) (ls : List PriceLevel) → ahead_of s (far s lo hi) l.price ≡ true → in_order s (prices_of (l ∷ ls)) ≡ true →
      between lo hi (l ∷ ls) ≡ []
  unfolding between leads
  none-behind l [] e h = rw (behind-far s lo hi l.price e)
  none-behind l (m ∷ ls) e h =
      let o = ordered s l.price (prices_of (m ∷ ls)) h in
      rw (behind-far s lo hi l.price e) (none-behind m ls (ahead_trans s (far s lo hi) l.price m.price e o.lead) o.rest)

  front-run :
      (ls : List PriceLevel) → count_ahead s (near s lo hi) (prices_of ls) ≡ 0 → in_order s (prices_of ls) ≡ true →
      between lo hi ls ≡ take (length (between lo hi ls)) ls
  unfolding between count_ahead
  front-run [] c h = refl
  front-run (l ∷ ls) c h =
      let o = ordered s l.price (prices_of ls) h in
      by (ahead_of s l.price (near s lo hi))
      (λ a. absurd (let z = rw a at c in omega arith))
      (λ a.
      by (ahead_of s (far s lo hi) l.price)
      (λ e. rw (none-behind l ls e h))
      (λ e. rw (from_near s lo hi l.price a e) (rw (sym (front-run ls (rw a at c) o.rest)))))

  -- the run begins behind the prices ahead of the near end
  pub between_run :
      (ls : List PriceLevel) → in_order s (prices_of ls) ≡ true →
      between lo hi ls ≡ take (length (between lo hi ls)) (drop (count_ahead s (near s lo hi) (prices_of ls)) ls)
  unfolding between count_ahead
  between_run [] h = refl
  between_run (l ∷ ls) h =
      let o = ordered s l.price (prices_of ls) h in
      by (ahead_of s l.price (near s lo hi))
      (λ a. rw (a, before-near s lo hi l.price a) (between_run ls o.rest))
      (λ a.
      let z : count_ahead s (near s lo hi) (prices_of (l ∷ ls)) ≡ 0 = rw a (none_ahead s (near s lo hi) l.price (prices_of ls) a h) in
      rw (a, none_ahead s (near s lo hi) l.price (prices_of ls) a h) (front-run (l ∷ ls) z h))
