-- A test of each number of a list, as the test of each place of it.
use Rattle.std.proofs.Common.{◌≡◌, ℕ, zero, suc, ◌≤◌, Bool, List, [], ◌∷◌, length, take, get_or, refl, arith}
use mathlib.Core.Bool.{and-true}
use Rattle.std.proofs.Math.Seq.{take-suc}
use Rattle.std.proofs.lemmas.List.{take_all}
use Rattle.std.proofs.lemmas.List.Folds.{list_all-append}
use Rattle.std.specs.List.{list_all}
use Rattle.amount.specs.Sums.{all_to}

first_listed : (f : ℕ → Bool) (xs : List ℕ) (n : ℕ) → n ≤ length xs → list_all f (take n xs) ≡ all_to (λ i. f (get_or xs i 0)) n
unfolding all_to
first_listed f xs zero h = refl
first_listed f xs (suc n) h = rw (take-suc xs n 0 h, list_all-append f (take n xs) (get_or xs n 0 ∷ []), first_listed f xs n (omega arith), and-true)

pub all_listed : (f : ℕ → Bool) (xs : List ℕ) (n : ℕ) → length xs ≡ n → list_all f xs ≡ all_to (λ i. f (get_or xs i 0)) n
all_listed f xs n e = rw (take_all n xs (omega arith)) at (first_listed f xs n (omega arith))
