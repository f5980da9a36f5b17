-- Of prices in order those ahead of another come first: what one place says of their number, and the run of places in which they end.
use Prim.Native.Nat.{ℕ, zero, suc, ◌+◌, ◌≤◌, ◌<◌}
use native.Mathlib.Omega.{arith}
use native.Mathlib.Nat.{zero-add}
use native.Mathlib.Numerals.{add-one}
use mathlib.Core.Path.{◌≡◌, refl, sym, ◌∙◌}
use mathlib.Core.Bool.{true, false}
use mathlib.Core.List.{List, [], ◌∷◌}
use lib.ListN.{length, take, drop, get_or}
use lib.Seq.{length-take-le, get_or-take, take-take}
use lib.Dec.{ltb}
use borrow.Author.Tests.{ltb-true, ltb-false, lt-ltb, le-ltb}
use Rattle.types.specs.declared.Side.{Side}
use Rattle.types.proofs.Booleans.{by}
use Rattle.levels.specs.Order.{ahead_of, in_order, count_ahead}
use Rattle.levels.specs.Inner.Ends.{EndIn}
use Rattle.levels.proofs.Orders.{ordered, none_ahead}
use Rattle.levels.proofs.Turned.{less_both}

module _ (s : Side) (p : ℕ) where
  -- there are no more of them than prices
  count_few : (xs : List ℕ) → count_ahead s p xs ≤ length xs
  unfolding count_ahead
  count_few [] = omega arith
  count_few (x ∷ xs) = let h = count_few xs in by (ahead_of s x p) (λ a. rw a (omega arith)) (λ a. rw a (omega arith))

  -- the price at a place is ahead exactly where the place is below their number
  ahead_below : (xs : List ℕ) (i : ℕ) → in_order s xs ≡ true → i < length xs → ahead_of s (get_or xs i 0) p ≡ ltb i (count_ahead s p xs)
  unfolding count_ahead
  ahead_below [] i h l = absurd (omega arith)
  ahead_below (x ∷ xs) zero h l = by (ahead_of s x p) (λ a. rw a (sym (lt-ltb 0 (suc (count_ahead s p xs)) (omega arith)))) (λ a. rw (a, none_ahead s p x xs a h) refl)
  ahead_below (x ∷ xs) (suc i) h l =
      let o = ordered s x xs h in
      let e = ahead_below xs i o.rest (omega arith) in
      by (ahead_of s x p) (λ a. rw (a, e) (rw (add-one, add-one) at (sym (less_both 1 i (count_ahead s p xs))))) (λ a. rw (a, e, none_ahead s p x xs a h) (le-ltb i 0 (omega arith) ∙ sym (le-ltb (suc i) 0 (omega arith))))

  -- the first so many, if they are no fewer than those ahead, hold all of these
  count_front : (xs : List ℕ) (t : ℕ) → in_order s xs ≡ true → count_ahead s p xs ≤ t → count_ahead s p (take t xs) ≡ count_ahead s p xs
  unfolding count_ahead
  count_front [] zero h l = refl
  count_front [] (suc t) h l = refl
  count_front (x ∷ xs) zero h l = omega arith
  count_front (x ∷ xs) (suc t) h l =
      let o = ordered s x xs h in
      by (ahead_of s x p)
      (λ a. let m = rw a at l in rw (a, count_front xs t o.rest (omega (arith, m))))
      (λ a. let z = none_ahead s p x xs a h in rw (a, count_front xs t o.rest (omega (arith, z))))

  -- those ahead are the places before a run in which they end, and those ahead within it
  count_run : (xs : List ℕ) (i w : ℕ) → in_order s xs ≡ true → EndIn s p xs i w → count_ahead s p xs ≡ i + count_ahead s p (drop i (take (i + w) xs))
  unfolding count_ahead
  count_run xs zero w h e = rw (zero-add, zero-add) (sym (count_front xs w h (omega (arith, e.1))))
  count_run [] (suc i) w h e = absurd (omega (arith, e.0))
  count_run (x ∷ xs) (suc i) w h e =
      let o = ordered s x xs h in
      by (ahead_of s x p)
      (λ a. let f = rw a at e in let g = count_run xs i w o.rest (omega (arith, f.0), omega (arith, f.1)) in let k : suc i + w ≡ suc (i + w) = omega arith in rw (a, k) (omega (arith, g)))
      (λ a. let f = rw (a, none_ahead s p x xs a h) at e in absurd (omega (arith, f.0)))

-- the same of the first n places of a row
module _ (s : Side) (p : ℕ) (xs : List ℕ) (n : ℕ) (l : n ≤ length xs) where
  pub count_within : count_ahead s p (take n xs) ≤ n
  count_within = omega (arith, count_few s p (take n xs), length-take-le n xs l)

  module _ (h : in_order s (take n xs) ≡ true) where
    place_test : (i : ℕ) → i < n → ahead_of s (get_or xs i 0) p ≡ ltb i (count_ahead s p (take n xs))
    place_test i k =
        let m = length-take-le n xs l in
        rw (← get_or-take n xs i 0 k) (ahead_below s p (take n xs) i h (omega arith))

    pub place_ahead : (i : ℕ) → i < n → ahead_of s (get_or xs i 0) p ≡ true → i < count_ahead s p (take n xs)
    place_ahead i k e = ltb-true i (count_ahead s p (take n xs)) (sym (place_test i k) ∙ e)

    pub place_behind : (i : ℕ) → i < n → ahead_of s (get_or xs i 0) p ≡ false → count_ahead s p (take n xs) ≤ i
    place_behind i k e = ltb-false i (count_ahead s p (take n xs)) (sym (place_test i k) ∙ e)

    pub run_counts : (i w : ℕ) → i + w ≤ n → EndIn s p (take n xs) i w → i + count_ahead s p (drop i (take (i + w) xs)) ≡ count_ahead s p (take n xs)
    run_counts i w k e = rw (← take-take (i + w) n xs k) (sym (count_run s p (take n xs) i w h e))
