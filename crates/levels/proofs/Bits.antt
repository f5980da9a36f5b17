-- The bits of numbers laid over each other: together they are no less than each number, and 0 where all of them are.
use Prim.Native.Nat.{ℕ, zero, suc, ◌+◌, ◌≤◌, ◌<◌}
use native.Mathlib.Omega.{arith}
use native.Mathlib.Numerals.{add-one}
use mathlib.Core.Path.{◌≡◌, refl}
use mathlib.Core.Bool.{Bool, true, false, ◌&&◌, and_assoc}
use mathlib.Core.List.{List, [], ◌∷◌, ◌++◌}
use lib.Bits.{bit_or, or_add_and, and_le_l, and_le_r, or_zero_l}
use lib.ListN.{length, take, drop, get_or}
use lib.Seq.{take-nil, drop-nil, take_all, take-suc}
use lib.Dec.{eqb}
use borrow.Author.Tests.{eqb-true, eqb-false, ne_eqb, le-leb, lt-leb}
use Rattle.types.specs.Limits.{within}
use Rattle.types.proofs.Booleans.{by}
use Rattle.levels.specs.Formed.{every, zeros}
use Rattle.levels.proofs.Ends.{le_within, wider}
use Rattle.levels.proofs.Rows.{every_turn, row_end}

or_left : (a b : ℕ) → a ≤ bit_or a b
or_left a b = omega (arith, or_add_and a b, and_le_r a b)

or_right : (a b : ℕ) → b ≤ bit_or a b
or_right a b = omega (arith, or_add_and a b, and_le_l a b)

every-append : (f : ℕ → Bool) (xs ys : List ℕ) → every f (xs ++ ys) ≡ every f xs && every f ys
unfolding every
every-append f [] ys = refl
every-append f (x ∷ xs) ys = rw (every-append f xs ys, and_assoc (f x) (every f xs) (every f ys))

-- if no number before the place i is above the bits so far, none up to it is above those and its own
pub within_more : (bits i : ℕ) (xs : List ℕ) → i < length xs → every (within 0 bits) (take i xs) ≡ true → every (within 0 (bit_or bits (get_or xs i 0))) (take (i + 1) xs) ≡ true
unfolding every
within_more bits i xs h e =
    let x = get_or xs i 0 in
    let all = bit_or bits x in
    let u = or_left bits x in
    let v = or_right bits x in
    rw (add-one, take-suc xs i 0 h, every-append (within 0 all) (take i xs) (x ∷ []), wider bits all (take i xs) u e, le_within 0 all x (omega arith) v)

-- 0, as a test of a place and as a test of bits
pub zero_test : (x : ℕ) → within 0 0 x ≡ eqb x 0
zero_test x =
    by (eqb x 0)
    (λ e. let z = eqb-true x 0 e in rw (e, le-leb 0 x (omega arith), le-leb x 0 (omega arith)))
    (λ e. let z = eqb-false x 0 e in rw (e, le-leb 0 x (omega arith), lt-leb x 0 (omega arith)))

pub or_zero : (a b : ℕ) → eqb (bit_or a b) 0 ≡ eqb a 0 && eqb b 0
or_zero a b =
    by (eqb a 0)
    (λ e. rw (e, eqb-true a 0 e, or_zero_l b))
    (λ e. let z = eqb-false a 0 e in let u = or_left a b in rw (e, ne_eqb (bit_or a b) 0 (λ h. z (omega arith))))

sorted : (b x y p q : Bool) → b && ((x && p) && (y && q)) ≡ (b && (x && y)) && (p && q)
sorted false x y p q = refl
sorted true false y p q = refl
sorted true true true p q = refl
sorted true true false true q = refl
sorted true true false false q = refl

-- both rows are 0 from the place i on
abbrev pub both : ℕ → List ℕ → List ℕ → Bool
both i ps qs = zeros (drop i ps) && zeros (drop i qs)

-- one turn of a loop over the places of two rows before `to`
pub bits_turn :
    (ps qs : List ℕ) (to bits i : ℕ) → to ≤ length ps → to ≤ length qs → i < to →
    eqb bits 0 && both i (take to ps) (take to qs) ≡ eqb (bit_or bits (bit_or (get_or ps i 0) (get_or qs i 0))) 0 && both (i + 1) (take to ps) (take to qs)
bits_turn ps qs to bits i l k h = grind (arith, every_turn, or_zero, zero_test)

-- a row from the place n on: its places before `to`, and those from i on, which may be partly the same
overlap : (xs : List ℕ) (n i to : ℕ) → n ≤ i → i ≤ to → zeros (drop n xs) ≡ zeros (drop n (take to xs)) && zeros (drop i xs)
unfolding every
overlap [] n i to h k = rw (take-nil to, drop-nil n, drop-nil i)
overlap (x ∷ xs) (suc n) (suc i) (suc to) h k = overlap xs n i to (omega arith) (omega arith)
overlap (x ∷ xs) zero zero zero h k = refl
overlap (x ∷ xs) zero zero (suc to) h k = by (within 0 0 x) (λ e. rw e (overlap xs zero zero to h (omega arith))) (λ e. rw e)
overlap (x ∷ xs) zero (suc i) (suc to) h k = by (within 0 0 x) (λ e. rw e (overlap xs zero i to (omega arith) (omega arith))) (λ e. rw e)
overlap (x ∷ xs) (suc n) zero to h k = absurd (omega arith)
overlap (x ∷ xs) n (suc i) zero h k = absurd (omega arith)

-- both rows from the place n on are a block that reaches to the place i or past it, and both rows from i on
module _ (ps qs : List ℕ) (n i to : ℕ) (h : n ≤ i) (k : i ≤ to) where
  pub block_before : both n ps qs ≡ both n (take to ps) (take to qs) && both i ps qs
  block_before =
      rw (overlap ps n i to h k, overlap qs n i to h k) (sorted true (zeros (drop n (take to ps))) (zeros (drop n (take to qs))) (zeros (drop i ps)) (zeros (drop i qs)))

-- the places of two rows before their end are all of them
pub both_whole : (n to : ℕ) (ps qs : List ℕ) → length ps ≤ to → length qs ≤ to → both n (take to ps) (take to qs) ≡ both n ps qs
both_whole n to ps qs h k = rw (take_all to ps h, take_all to qs k)

-- behind its last place a row is 0
pub both_end : (i : ℕ) (ps qs : List ℕ) → length ps ≤ i → length qs ≤ i → both i ps qs ≡ true
both_end i ps qs h k = rw (row_end ps i (within 0 0) h, row_end qs i (within 0 0) k)
