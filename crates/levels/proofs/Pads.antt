-- A row that is a list and zeros behind it: how each is found again from the other.
use Prim.Native.Nat.{ℕ, zero, suc, ◌-◌, ◌≤◌}
use native.Mathlib.Omega.{arith}
use mathlib.Core.Path.{◌≡◌, refl, ap, ◌∙◌}
use mathlib.Core.Bool.{true, and-eq-true_iff}
use mathlib.Core.List.{List, [], ◌∷◌, map}
use lib.ListN.{length, take, drop, get_or, replicate, length-append, length-drop, length-map, length-replicate, take-append-drop}
use lib.Seq.{take_at, drop_at, length-take-le}
use lib.Dec.{leb}
use borrow.Author.Tests.{leb-true}
use Rattle.types.specs.Limits.{within, max_levels}
use Rattle.levels.specs.Table.{padded}
use Rattle.levels.specs.Formed.{every, zeros}

-- a test of zeros says that they are zeros
zeros-all : (xs : List ℕ) → zeros xs ≡ true → xs ≡ replicate (length xs) 0
unfolding every
zeros-all [] h = refl
zeros-all (x ∷ xs) h =
    let a = (and-eq-true_iff (within 0 0 x) _).0 h in
    let e : x ≡ 0 = omega (arith, leb-true x 0 ((and-eq-true_iff (leb 0 x) _).0 a.0).1) in
    let r = zeros-all xs a.1 in
    cc

all-zeros : (n : ℕ) → zeros (replicate n 0) ≡ true
unfolding every
all-zeros zero = refl
all-zeros (suc n) = all-zeros n

-- a row with zeros from the place n on is its first n, padded
pub padded-back : (xs : List ℕ) (n : ℕ) → length xs ≡ max_levels → n ≤ max_levels → zeros (drop n xs) ≡ true → padded (take n xs) ≡ xs
padded-back xs n e h z =
    let m : length (take n xs) ≡ n = length-take-le n xs (omega arith) in
    let k : length (drop n xs) ≡ max_levels - n = length-drop n xs ∙ ap (λ (x : ℕ). x - n) e in
    let r = zeros-all (drop n xs) z in
    let j = take-append-drop n xs in
    cc

-- the first place of a row, 0 for none
pub padded-first : (xs : List ℕ) → get_or (padded xs) 0 0 ≡ get_or xs 0 0
padded-first [] = refl
padded-first (x ∷ xs) = refl

-- the row of one field of a list of levels: its used places, the others, and how many they are together
module _ {A : Type 0} (f : A → ℕ) (ls : List A) where
  pub padded_front : take (length ls) (padded (map f ls)) ≡ map f ls
  padded_front = take_at (map f ls) (replicate (max_levels - length (map f ls)) 0) (length ls) (length-map ls f)

  pub padded-behind : zeros (drop (length ls) (padded (map f ls))) ≡ true
  padded-behind = let z = max_levels - length (map f ls) in rw (drop_at (map f ls) (replicate z 0) (length ls) (length-map ls f)) (all-zeros z)

  pub padded-length : length ls ≤ max_levels → length (padded (map f ls)) ≡ max_levels
  padded-length h = simp (length-append, length-replicate, length-map) (omega arith)
