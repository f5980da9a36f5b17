-- A price's place among others is one of the list's.
use Prim.Native.Nat.{ℕ, suc, ◌≤◌, ◌<◌}
use native.Mathlib.Omega.{arith}
use native.Mathlib.Numerals.{add-one}
use mathlib.Core.Path.{◌≡◌, refl}
use mathlib.Core.List.{List, [], ◌∷◌}
use lib.ListN.{length}
use lib.Dec.{eqb}
use Rattle.types.specs.declared.Side.{Side}
use Rattle.types.proofs.Booleans.{by}
use Rattle.levels.specs.Order.{ahead_of, place_from}
use Rattle.levels.specs.declared.Place.{Place}
use Rattle.levels.specs.declared.Place.TheVariants.{At, Before}

-- the same place, counted from one further in front
abbrev pub next : Place → Place
next (At i) = At (suc i)
next (Before i) = Before (suc i)

-- the place is one of a list of n
abbrev pub InList : Place → ℕ → Type 0
InList (At i) n = i < n
InList (Before i) n = i ≤ n

in_next : (w : Place) (n : ℕ) → InList w n → InList (next w) (suc n)
in_next (At i) n h = omega arith
in_next (Before i) n h = omega arith

module _ (s : Side) (p : ℕ) where
  -- counting the places from one further on
  pub place_next : (xs : List ℕ) (i : ℕ) → place_from s p (suc i) xs ≡ next (place_from s p i xs)
  unfolding place_from
  place_next [] i = refl
  place_next (x ∷ xs) i =
      by (eqb x p) (λ e. rw e)
      (λ e. rw e (by (ahead_of s x p) (λ a. rw (a, add-one, add-one) (place_next xs (suc i))) (λ a. rw a)))

  -- a price's place is one of the list
  pub place_in : (xs : List ℕ) → InList (place_from s p 0 xs) (length xs)
  unfolding place_from
  place_in [] = omega arith
  place_in (x ∷ xs) =
      by (eqb x p) (λ e. rw e (omega arith))
      (λ e. rw e (by (ahead_of s x p) (λ a. rw (a, place_next xs 0) (in_next (place_from s p 0 xs) (length xs) (place_in xs))) (λ a. rw a (omega arith))))
