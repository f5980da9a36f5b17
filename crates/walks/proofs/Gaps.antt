-- Gaps between neighbours, and the smallest of several numbers.
use Prim.Native.Nat.{ℕ, ◌-◌, ◌≤◌, min}
use native.Mathlib.Omega.{arith}
use mathlib.Core.Path.{◌≡◌, refl, ap}
use mathlib.Core.Bool.{Bool, true}
use mathlib.Core.List.{List, [], ◌∷◌, ◌++◌}
use lib.Dec.{leb}
use lib.ListN.{length}
use borrow.Author.Tests.{leb-true, le-leb}
use Rattle.types.specs.Limits.{max_price}
use Rattle.types.specs.Replies.{done}
use Rattle.types.specs.declared.PriceLevel.{PriceLevel}
use Rattle.levels.specs.Table.{prices_of}
use Rattle.levels.specs.Formed.{every, in_limits}
use Rattle.walks.specs.Walk.{distance, gaps_from, gaps_of, least_from, least_of}
use Rattle.walks.proofs.Walks.{every-parts, within_limits}

pub every-both : {A : Type 0} (f : A → Bool) (xs ys : List A) → every f xs ≡ true → every f ys ≡ true → every f (xs ++ ys) ≡ true
unfolding every
every-both f [] ys h k = k
every-both f (x ∷ xs) ys h k = let o = every-parts f x xs h in rw (o.0, every-both f xs ys o.1 k)

-- numbers of at most m
abbrev pub at_most : ℕ → List ℕ → Bool
at_most m xs = every (λ x. leb x m) xs

pub least_append : (m : ℕ) (xs ys : List ℕ) → least_from m (xs ++ ys) ≡ least_from (least_from m xs) ys
unfolding least_from
least_append m [] ys = refl
least_append m (x ∷ xs) ys = least_append (min m x) xs ys

-- a bound to start from does not matter
pub least_of_lem : (m : ℕ) (xs : List ℕ) → 1 ≤ length xs → at_most m xs ≡ true → least_of xs ≡ done (least_from m xs)
unfolding least_from least_of
least_of_lem m [] k h = absurd (omega arith)
least_of_lem m (x ∷ xs) k h =
    let e : x ≡ min m x = omega (arith, leb-true x m (every-parts (λ y. leb y m) x xs h).0) in
    ap (λ (y : ℕ). done (least_from y xs)) e

-- one gap less than prices, and none below two prices
pub gaps_length : (xs : List ℕ) → length (gaps_of xs) ≡ length xs - 1
unfolding gaps_of gaps_from
gaps_length [] = refl
gaps_length (x ∷ []) = refl
gaps_length (x ∷ y ∷ ys) = let r = gaps_length (y ∷ ys) in omega arith

pub gaps_none : (xs : List ℕ) → length xs ≤ 1 → gaps_of xs ≡ []
unfolding gaps_of gaps_from
gaps_none [] h = refl
gaps_none (x ∷ []) h = refl
gaps_none (x ∷ y ∷ ys) h = absurd (omega arith)

-- prices of at most m lie at most m distance
pub gaps_bound : (m : ℕ) (xs : List ℕ) → at_most m xs ≡ true → at_most m (gaps_of xs) ≡ true
unfolding every gaps_of gaps_from
gaps_bound m [] h = refl
gaps_bound m (x ∷ []) h = refl
gaps_bound m (x ∷ y ∷ ys) h =
    let o = every-parts (λ z. leb z m) x (y ∷ ys) h in
    let k = every-parts (λ z. leb z m) y ys o.1 in
    let a = leb-true x m o.0 in
    let b = leb-true y m k.0 in
    rw (le-leb (distance x y) m (omega arith)) (gaps_bound m (y ∷ ys) o.1)

-- prices within the limits
pub prices_bound : (ls : List PriceLevel) → every in_limits ls ≡ true → at_most max_price (prices_of ls) ≡ true
unfolding every
prices_bound [] h = refl
prices_bound (l ∷ ls) h =
    let o = every-parts in_limits l ls h in
    rw (le-leb l.price max_price (within_limits l o.0).cheap, prices_bound ls o.1)
