-- The order of prices by a count: how many of them are ahead of the next.
use Prim.Native.Nat.{ℕ, zero, suc, ◌+◌, ◌-◌, ◌≤◌, ◌<◌}
use native.Mathlib.Omega.{arith}
use mathlib.Core.Path.{◌≡◌, refl, ◌∙◌}
use mathlib.Core.Bool.{true}
use mathlib.Core.List.{List, [], ◌∷◌}
use lib.ListN.{length, take}
use lib.Seq.{length-take-le}
use lib.Dec.{eqb}
use borrow.Author.Tests.{eq-eqb, ne_eqb, eqb-true, eqb-false}
use Rattle.types.specs.declared.Side.{Side}
use Rattle.levels.specs.Order.{ahead_of, leads, in_order, step_to, steps}
use Rattle.types.proofs.Booleans.{by}

-- two tests of numbers that come to the same
same_test : (a b c d : ℕ) → (a ≡ b → c ≡ d) → (c ≡ d → a ≡ b) → eqb a b ≡ eqb c d
same_test a b c d f g = by (eqb c d) (λ e. rw e (eq-eqb a b (g (eqb-true c d e)))) (λ e. rw e (ne_eqb a b (λ h. eqb-false c d e (f h))))

module _ (s : Side) where
  -- a price takes one step at most
  step_small : (p : ℕ) (xs : List ℕ) → step_to s p xs ≤ 1
  unfolding step_to
  step_small p [] = omega arith
  step_small p (x ∷ xs) = by (ahead_of s p x) (λ a. rw a (omega arith)) (λ a. rw a (omega arith))

  -- there are fewer steps than prices, and prices are in order where each but the last takes one
  steps_few : (x : ℕ) (xs : List ℕ) → steps s (x ∷ xs) ≤ length xs
  unfolding steps step_to
  steps_few x [] = omega arith
  steps_few x (y ∷ ys) = let h = steps_few y ys in omega (arith, step_small x (y ∷ ys))

  all-steps : (x : ℕ) (xs : List ℕ) → eqb (steps s (x ∷ xs)) (length xs) ≡ in_order s (x ∷ xs)
  unfolding steps step_to in_order leads
  all-steps x [] = refl
  all-steps x (y ∷ ys) =
      let h = steps_few y ys in
      by (ahead_of s x y)
      (λ a. rw a (same_test (1 + steps s (y ∷ ys)) (suc (length ys)) (steps s (y ∷ ys)) (length ys) (λ e. omega arith) (λ e. omega arith) ∙ all-steps y ys))
      (λ a. rw (a, ne_eqb (0 + steps s (y ∷ ys)) (suc (length ys)) (λ e. omega arith)))

  pub order_none : (xs : List ℕ) (n : ℕ) → n ≡ 0 → in_order s (take n xs) ≡ true
  unfolding in_order
  order_none xs n e = rw e

  pub order_by_steps : (xs : List ℕ) (n : ℕ) → n ≤ length xs → 0 < n → eqb (steps s (take n xs)) (n - 1) ≡ in_order s (take n xs)
  order_by_steps xs zero l h = absurd (omega arith)
  order_by_steps [] (suc m) l h = absurd (omega arith)
  order_by_steps (x ∷ xs) (suc m) l h =
      let k : suc m - 1 ≡ length (take m xs) = omega (arith, length-take-le m xs (omega arith)) in
      rw k (all-steps x (take m xs))
