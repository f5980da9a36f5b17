-- A loop over the first n places of rows of 128: in a turn what is left begins with the place i, and after the loop nothing is left.
use Prim.Native.Nat.{ℕ, ◌+◌, ◌-◌, ◌*◌, ◌≤◌, ◌<◌, min}
use native.Mathlib.Nat.{eq-or-lt_of_le}
use native.Mathlib.Omega.{arith}
use native.Mathlib.Numerals.{add-one}
use mathlib.Core.Path.{◌≡◌}
use mathlib.Core.Logic.{⊎_elim}
use mathlib.Core.List.{List, [], ◌∷◌}
use lib.ListN.{length, take, drop, get_or, drop_of_length-le}
use lib.Seq.{drop-cons}
use borrow.Author.Tests.{le-leb, lt-leb}
use Rattle.types.specs.declared.PriceLevel.{PriceLevel}
use Rattle.levels.specs.Table.{level, levels, rows}
use Rattle.walks.specs.Walk.{sum_of, total_of, cost_of, reach_from, distance, gaps_from, gaps_of, least_from}
use Rattle.levels.proofs.Rows.{run_cons, run_end}
use Rattle.levels.proofs.Tables.{Sized, levels_cons, levels_end}

-- one row
module _ (xs : List ℕ) (i : ℕ) where
  pub sum_turn : i < length xs → sum_of (drop i xs) ≡ get_or xs i 0 + sum_of (drop (i + 1) xs)
  unfolding sum_of
  sum_turn h = rw (drop-cons xs i 0, add-one)

  pub sum_end : length xs ≤ i → sum_of (drop i xs) ≡ 0
  unfolding sum_of
  sum_end h = rw (drop_of_length-le xs h)

-- the first n places of one
module _ (a : List ℕ) (n i : ℕ) (fits : n ≤ length a) where
  gaps_turn : i + 1 < n → gaps_of (drop i (take n a)) ≡ distance (get_or a i 0) (get_or a (i + 1) 0) ∷ gaps_of (drop (i + 1) (take n a))
  unfolding gaps_of gaps_from
  gaps_turn h = rw (run_cons a n fits i (omega arith), run_cons a n fits (i + 1) h)

  gaps_end : n ≤ i + 1 → gaps_of (drop i (take n a)) ≡ []
  unfolding gaps_of gaps_from
  gaps_end h =
      ⊎_elim
      (λ k. rw (run_cons a n fits i (omega arith), run_end a n fits (i + 1) h))
      (λ k. rw (run_end a n fits i (omega arith)))
      (eq-or-lt_of_le h)

  pub least_turn : i + 1 < n → (m k : ℕ) → k ≡ min m (distance (get_or a i 0) (get_or a (i + 1) 0)) → least_from m (gaps_of (drop i (take n a))) ≡ least_from k (gaps_of (drop (i + 1) (take n a)))
  unfolding least_from
  least_turn h m k e = rw (gaps_turn h, e)

  pub least_end : (m : ℕ) → n ≤ i + 1 → least_from m (gaps_of (drop i (take n a))) ≡ m
  unfolding least_from
  least_end m h = rw (gaps_end h)

-- two rows of 128 places, of which the first n are used
abbrev pub Lent : List ℕ → List ℕ → ℕ → Type 0
Lent p q n = (length p ≡ 128) × (length q ≡ 128) × (n ≤ 128)

-- the levels from the place i on
abbrev pub rest : List ℕ → List ℕ → ℕ → ℕ → List PriceLevel
rest p q n i = drop i (levels (rows p q n))

module _ (p q : List ℕ) (n : ℕ) (w : Lent p q n) (i : ℕ) where
  sized : Sized (rows p q n)
  sized = record { ps = w.0; qs = w.1 }

  level-turn : i < n → rest p q n i ≡ level (get_or p i 0) (get_or q i 0) ∷ rest p q n (i + 1)
  level-turn h = levels_cons (rows p q n) sized w.2 i h

  level_end : n ≤ i → rest p q n i ≡ []
  level_end h = levels_end (rows p q n) sized w.2 i h

-- what a turn does to each answer
module _ (p q : List ℕ) (n : ℕ) (w : Lent p q n) (i : ℕ) where
  pub total_turn : i < n → total_of (rest p q n i) ≡ get_or q i 0 + total_of (rest p q n (i + 1))
  unfolding sum_of
  total_turn h = rw (level-turn p q n w i h)

  pub total_end : n ≤ i → total_of (rest p q n i) ≡ 0
  unfolding sum_of
  total_end h = rw (level_end p q n w i h)

  module _ (left : ℕ) where
    pub cost_last : i < n → left ≤ get_or q i 0 → cost_of left (rest p q n i) ≡ get_or p i 0 * left
    unfolding cost_of
    cost_last h l = rw (level-turn p q n w i h, le-leb left (get_or q i 0))

    pub cost_more : i < n → get_or q i 0 < left → cost_of left (rest p q n i) ≡ get_or p i 0 * get_or q i 0 + cost_of (left - get_or q i 0) (rest p q n (i + 1))
    unfolding cost_of
    cost_more h l = rw (level-turn p q n w i h, lt-leb left (get_or q i 0))

    module _ (last : ℕ) where
      pub reach_last : i < n → left ≤ get_or q i 0 → reach_from last left (rest p q n i) ≡ get_or p i 0
      unfolding reach_from
      reach_last h l = rw (level-turn p q n w i h, le-leb left (get_or q i 0))

      pub reach_more : i < n → get_or q i 0 < left → reach_from last left (rest p q n i) ≡ reach_from (get_or p i 0) (left - get_or q i 0) (rest p q n (i + 1))
      unfolding reach_from
      reach_more h l = rw (level-turn p q n w i h, lt-leb left (get_or q i 0))

      pub reach_end : n ≤ i → reach_from last left (rest p q n i) ≡ last
      unfolding reach_from
      reach_end h = rw (level_end p q n w i h)
