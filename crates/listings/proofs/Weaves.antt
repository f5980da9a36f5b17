-- Levels woven into numbers: how many numbers they are, and what a price and a quantity stored behind them add.
use Prim.Native.Nat.{ℕ, suc, ◌+◌, ◌*◌, ◌≤◌, ◌<◌}
use native.Mathlib.Omega.{arith}
use native.Mathlib.Numerals.{add-one}
use mathlib.Core.Path.{◌≡◌, refl}
use mathlib.Core.List.{List, [], ◌∷◌, ◌++◌}
use lib.ListN.{length, take, drop, get_or, set}
use lib.Seq.{length-take-le, take-suc, drop-cons}
use Rattle.types.specs.declared.PriceLevel.{PriceLevel}
use Rattle.levels.specs.Table.{level}
use Rattle.listings.specs.Listed.{woven}

pub woven-length : (ls : List PriceLevel) → length (woven ls) ≡ 2 * length ls
unfolding woven
woven-length [] = refl
woven-length (l ∷ ls) = let e = woven-length ls in omega arith

pub woven_append : (xs ys : List PriceLevel) → woven (xs ++ ys) ≡ woven xs ++ woven ys
unfolding woven
woven_append [] ys = refl
woven_append (x ∷ xs) ys = rw (woven_append xs ys)

-- two stores at the seam
two : (xs : List ℕ) (y z p q : ℕ) (ys : List ℕ) → set (set (xs ++ (y ∷ (z ∷ ys))) (length xs) p) (suc (length xs)) q ≡ (xs ++ (p ∷ (q ∷ []))) ++ ys
two [] y z p q ys = refl
two (x ∷ xs) y z p q ys = rw (two xs y z p q ys)

two-stores :
    (xs o : List ℕ) (n p q : ℕ) → length xs ≡ n → n + 1 < length o →
    set (set (xs ++ drop n o) n p) (n + 1) q ≡ (xs ++ (p ∷ (q ∷ []))) ++ drop (n + 2) o
two-stores xs o n p q e h =
    let d : drop n o ≡ get_or o n 0 ∷ drop (suc n) o = drop-cons o n 0 (omega arith) in
    let f : drop (suc n) o ≡ get_or o (suc n) 0 ∷ drop (suc (suc n)) o = drop-cons o (suc n) 0 (omega arith) in
    let g : n + 2 ≡ suc (suc n) = omega arith in
    cc (two xs (get_or o n 0) (get_or o (suc n) 0) p q (drop (suc (suc n)) o), add-one n)

-- one turn of the writer: the next of k levels stored behind those written, o being the buffer as it was lent and out as it is
pub weave_turn :
    (xs : List PriceLevel) (k i p q : ℕ) (o out : List ℕ) →
    length xs ≡ k →
    i < k →
    2 * k ≤ length o →
    get_or xs i (level 0 0) ≡ level p q →
    out ≡ woven (take i xs) ++ drop (2 * i) o →
    set (set out (2 * i) p) (2 * i + 1) q ≡ woven (take (i + 1) xs) ++ drop (2 * (i + 1)) o
unfolding woven
weave_turn xs k i p q o out all h room at e =
    let n : length (woven (take i xs)) ≡ 2 * i = omega (arith, woven-length (take i xs), length-take-le i xs (omega arith)) in
    let j : 2 * (i + 1) ≡ 2 * i + 2 = omega arith in
    rw (e, j, add-one i, take-suc xs i (level 0 0) (omega arith), at, woven_append (take i xs) (level p q ∷ []))
    (two-stores (woven (take i xs)) o (2 * i) p q n (omega arith))
