-- A row, or its first n places, from the place i on: what a test, a count of steps and a count say of them by the place at i and the rest.
use Prim.Native.Nat.{ℕ, suc, ◌+◌, ◌≤◌, ◌<◌}
use native.Mathlib.Omega.{arith}
use native.Mathlib.Nat.{eq-or-lt_of_le}
use native.Mathlib.Numerals.{add-one}
use mathlib.Core.Path.{◌≡◌, refl}
use mathlib.Core.Bool.{Bool, true, cond, ◌&&◌}
use mathlib.Core.Logic.{⊎_elim}
use mathlib.Core.List.{List, [], ◌∷◌}
use lib.ListN.{length, take, drop, get_or, drop_of_length-le}
use lib.Seq.{length-take-le, drop-cons, get_or-take, take_all}
use Rattle.types.specs.declared.Side.{Side}
use Rattle.levels.specs.Order.{ahead_of, step_to, steps, count_ahead}
use Rattle.levels.specs.Formed.{every}

-- a test of no places
pub every_nil : (f : ℕ → Bool) → every f [] ≡ true
unfolding every
every_nil f = refl

-- a test of the first n, if these are all
pub every_all : (f : ℕ → Bool) (xs : List ℕ) (n : ℕ) → length xs ≤ n → every f (take n xs) ≡ every f xs
every_all f xs n h = rw (take_all n xs h)

-- a test of the whole row from the place i on
module _ (xs : List ℕ) (i : ℕ) (f : ℕ → Bool) where
  pub row_turn : i < length xs → every f (drop i xs) ≡ f (get_or xs i 0) && every f (drop (i + 1) xs)
  unfolding every
  row_turn h = rw (drop-cons xs i 0, add-one)

  pub row_end : length xs ≤ i → every f (drop i xs) ≡ true
  unfolding every
  row_end h = rw (drop_of_length-le xs h)

module _ (xs : List ℕ) (n : ℕ) (l : n ≤ length xs) where
  -- what is left of the first n from the place i on: the number there, and then the rest
  pub run_cons : (i : ℕ) → i < n → drop i (take n xs) ≡ get_or xs i 0 ∷ drop (i + 1) (take n xs)
  run_cons i h =
      let e : length (take n xs) ≡ n = length-take-le n xs l in
      let fit : i < length (take n xs) = omega arith in
      rw (drop-cons (take n xs) i 0, get_or-take, add-one)

  pub run_end : (i : ℕ) → n ≤ i → drop i (take n xs) ≡ []
  run_end i h =
      let e : length (take n xs) ≡ n = length-take-le n xs l in
      let past : length (take n xs) ≤ i = omega arith in
      drop_of_length-le (take n xs) past

  module _ (i : ℕ) where
    pub every_turn : (f : ℕ → Bool) → i < n → every f (drop i (take n xs)) ≡ f (get_or xs i 0) && every f (drop (i + 1) (take n xs))
    unfolding every
    every_turn f h = rw (run_cons i h)

    pub every_end : (f : ℕ → Bool) → n ≤ i → every f (drop i (take n xs)) ≡ true
    unfolding every
    every_end f h = rw (run_end i h)

    pub steps-turn : (s : Side) → i + 1 < n → steps s (drop i (take n xs)) ≡ cond (ahead_of s (get_or xs i 0) (get_or xs (i + 1) 0)) 1 0 + steps s (drop (i + 1) (take n xs))
    unfolding steps step_to
    steps-turn s h = rw (run_cons i (omega arith), run_cons (i + 1) h)

    pub steps_end : (s : Side) → n ≤ i + 1 → steps s (drop i (take n xs)) ≡ 0
    unfolding steps step_to
    steps_end s h =
        ⊎_elim
        (λ e. rw (run_cons i (omega arith), run_end (i + 1) h))
        (λ e. rw (run_end i (omega arith)))
        (eq-or-lt_of_le h)

    module _ (s : Side) (p : ℕ) where
      pub count_turn : i < n → count_ahead s p (drop i (take n xs)) ≡ cond (ahead_of s (get_or xs i 0) p) (suc (count_ahead s p (drop (i + 1) (take n xs)))) (count_ahead s p (drop (i + 1) (take n xs)))
      unfolding count_ahead
      count_turn h = rw (run_cons i h)

      pub count_end : n ≤ i → count_ahead s p (drop i (take n xs)) ≡ 0
      unfolding count_ahead
      count_end h = rw (run_end i h)
