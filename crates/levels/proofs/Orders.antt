-- The order of a side's prices, and where a price stands among them.
use Prim.Native.Nat.{ℕ, zero, suc, ◌+◌, ◌≤◌, ◌<◌}
use native.Mathlib.Omega.{arith}
use native.Mathlib.Nat.{add-zero, zero-add}
use mathlib.Core.Path.{◌≡◌, refl, sym, ◌∙◌}
use mathlib.Core.Bool.{true, false, cond, and-eq-true_iff, false≢true}
use mathlib.Core.List.{List, [], ◌∷◌}
use lib.ListN.{length, take, get_or, get_or-eq_default}
use lib.Seq.{length-take-le, get_or-take}
use lib.Dec.{eqb, ltb}
use borrow.Author.Tests.{ltb-true, ltb-false, lt-ltb, le-ltb, eq-eqb, ne_eqb}
use Rattle.types.specs.declared.Side.{Side}
use Rattle.types.specs.declared.Side.TheVariants.{Bid, Ask}
use Rattle.levels.specs.Order.{ahead_of, leads, in_order, count_ahead, place_from}
use Rattle.levels.specs.declared.Place.TheVariants.{At, Before}
use Rattle.types.proofs.Booleans.{by}

-- the laws of the order, by which nothing else splits on the side: not itself, transitive, one or the other
pub ahead_not_self : (s : Side) (a : ℕ) → ahead_of s a a ≡ false
ahead_not_self Bid a = le-ltb a a (omega arith)
ahead_not_self Ask a = le-ltb a a (omega arith)

pub ahead_trans : (s : Side) (a b c : ℕ) → ahead_of s a b ≡ true → ahead_of s b c ≡ true → ahead_of s a c ≡ true
ahead_trans Bid a b c h k = lt-ltb c a (omega (arith, ltb-true b a h, ltb-true c b k))
ahead_trans Ask a b c h k = lt-ltb a c (omega (arith, ltb-true a b h, ltb-true b c k))

pub ahead_or : (s : Side) (a b : ℕ) → (a ≡ b → ⊥) → ahead_of s a b ≡ false → ahead_of s b a ≡ true
ahead_or Bid a b d h = lt-ltb a b (omega (arith, ltb-false b a h, d))
ahead_or Ask a b d h = lt-ltb b a (omega (arith, ltb-false a b h, d))

-- and what follows of two prices
pub ahead_not_same : (s : Side) (a b : ℕ) → ahead_of s a b ≡ true → a ≡ b → ⊥
ahead_not_same s a b h e = false≢true (sym (ahead_not_self s b) ∙ rw e at h)

pub ahead_not_back : (s : Side) (a b : ℕ) → ahead_of s a b ≡ true → ahead_of s b a ≡ false
ahead_not_back s a b h = by (ahead_of s b a) (λ k. absurd (ahead_not_same s a a (ahead_trans s a b a h k) refl)) (λ k. k)

-- the order of a list with a first price, in its two parts
pub record Ordered (s : Side) (x : ℕ) (xs : List ℕ) : Type 0 where
  pub lead : leads s x xs ≡ true
  pub rest : in_order s xs ≡ true

module _ (s : Side) (x : ℕ) (xs : List ℕ) where
  pub ordered : in_order s (x ∷ xs) ≡ true → Ordered s x xs
  unfolding in_order
  ordered h = let p = (and-eq-true_iff (leads s x xs) (in_order s xs)).0 h in record { lead = p.0; rest = p.1 }

  pub in_order_lem : leads s x xs ≡ true → in_order s xs ≡ true → in_order s (x ∷ xs) ≡ true
  unfolding in_order
  in_order_lem h k = rw (h, k)

-- a price ahead of another leads what the other leads
pub leads_on : (s : Side) (a b : ℕ) (xs : List ℕ) → ahead_of s a b ≡ true → leads s b xs ≡ true → leads s a xs ≡ true
unfolding leads
leads_on s a b [] h k = refl
leads_on s a b (x ∷ xs) h k = ahead_trans s a b x h k

module _ (s : Side) (p : ℕ) where
  -- behind a price that is not ahead of p none is
  pub none_ahead : (x : ℕ) (xs : List ℕ) → ahead_of s x p ≡ false → in_order s (x ∷ xs) ≡ true → count_ahead s p xs ≡ 0
  unfolding count_ahead leads
  none_ahead x [] a h = refl
  none_ahead x (y ∷ ys) a h =
      let o = ordered s x (y ∷ ys) h in
      by (ahead_of s y p) (λ b. absurd (false≢true (sym a ∙ ahead_trans s x y p o.lead b))) (λ b. rw b (none_ahead y ys b o.rest))

  -- p stands or belongs where the prices ahead of it end
  pub counted : (xs : List ℕ) (i : ℕ) → in_order s xs ≡ true → place_from s p i xs ≡ cond (eqb (get_or xs (count_ahead s p xs) (suc p)) p) (At (i + count_ahead s p xs)) (Before (i + count_ahead s p xs))
  unfolding count_ahead place_from
  counted [] i h = rw (ne_eqb (suc p) p (omega arith), add-zero)
  counted (x ∷ xs) i h =
      let o = ordered s x xs h in
      by (ahead_of s x p)
      (λ a.
      let e : i + 1 + count_ahead s p xs ≡ i + suc (count_ahead s p xs) = omega arith in
      rw (a, ne_eqb x p (ahead_not_same s x p a), ← e) (counted xs (i + 1) o.rest))
      (λ a. rw (a, none_ahead x xs a h, add-zero))

-- a number of the list, whatever is said of those past its end
pub get_d_any : (xs : List ℕ) (i d e : ℕ) → i < length xs → get_or xs i d ≡ get_or xs i e
get_d_any [] i d e h = absurd (omega arith)
get_d_any (x ∷ xs) zero d e h = refl
get_d_any (x ∷ xs) (suc i) d e h = get_d_any xs i d e (omega arith)

-- the place of a price, from the count of those ahead of it
module _ (s : Side) (p : ℕ) (xs : List ℕ) (n : ℕ) (l : n ≤ length xs) (h : in_order s (take n xs) ≡ true) (c : ℕ) (e : c ≡ count_ahead s p (take n xs)) where
  place : place_from s p 0 (take n xs) ≡ cond (eqb (get_or (take n xs) c (suc p)) p) (At c) (Before c)
  place = rw e (rw zero-add at (counted s p (take n xs) 0 h))

  there : c < n → get_or (take n xs) c (suc p) ≡ get_or xs c 0
  there k = get_or-take n xs c (suc p) k ∙ get_d_any xs c (suc p) 0 (omega arith)

  pub place_at : c < n → get_or xs c 0 ≡ p → place_from s p 0 (take n xs) ≡ At c
  place_at k q = rw (place, eq-eqb _ _ (there k ∙ q))

  pub place_before : (c < n → get_or xs c 0 ≡ p → ⊥) → place_from s p 0 (take n xs) ≡ Before c
  place_before d =
      let m : length (take n xs) ≡ n = length-take-le n xs l in
      let far : get_or (take n xs) c (suc p) ≡ p → ⊥ = λ q.
      by (ltb c n)
      (λ k. let f = ltb-true c n k in d f (sym (there f) ∙ q))
      (λ k. let past : length (take n xs) ≤ c = omega (arith, ltb-false c n k) in omega (arith, q, get_or-eq_default (take n xs) (suc p) past)) in
      rw (place, ne_eqb _ _ far)
