-- The levels after Set and after Remove: their order, their limits, and how many there are.
use Prim.Native.Nat.{ℕ, ◌+◌, ◌≤◌}
use native.Mathlib.Omega.{arith}
use mathlib.Core.Path.{◌≡◌, refl, sym}
use mathlib.Core.Bool.{Bool, true, and-eq-true_iff}
use mathlib.Core.List.{List, [], ◌∷◌}
use lib.ListN.{length}
use lib.Dec.{eqb}
use borrow.Author.Tests.{eqb-true, eqb-false, ne_eqb}
use Rattle.types.specs.declared.Side.{Side}
use Rattle.types.specs.declared.PriceLevel.{PriceLevel}
use Rattle.types.proofs.Booleans.{by}
use Rattle.levels.specs.Order.{ahead_of, leads, in_order}
use Rattle.levels.specs.Table.{prices_of}
use Rattle.levels.specs.Formed.{every}
use Rattle.levels.specs.Change.{set_level, remove_level}
use Rattle.levels.proofs.Orders.{ahead_not_same, ahead_or, ordered, in_order_lem, leads_on}

module _ (s : Side) (n : PriceLevel) where
  -- what is ahead of the old first price and of the level's is ahead of the new first price
  pub set-leads : (x : ℕ) (ls : List PriceLevel) → leads s x (prices_of ls) ≡ true → ahead_of s x n.price ≡ true → leads s x (prices_of (set_level s n ls)) ≡ true
  unfolding leads set_level
  set-leads x [] h a = a
  set-leads x (l ∷ ls) h a =
      by (eqb l.price n.price) (λ e. rw e a) (λ e. rw e (by (ahead_of s l.price n.price) (λ f. rw f h) (λ f. rw f a)))

  -- Set puts the level where the order wants it
  pub set_order : (ls : List PriceLevel) → in_order s (prices_of ls) ≡ true → in_order s (prices_of (set_level s n ls)) ≡ true
  unfolding leads set_level
  set_order [] h = in_order_lem s n.price [] refl h
  set_order (l ∷ ls) h =
      let o = ordered s l.price (prices_of ls) h in
      by (eqb l.price n.price) (λ e. rw e (rw (eqb-true l.price n.price e) at h))
      (λ e.
      rw e
      (by (ahead_of s l.price n.price)
      (λ f. rw f (in_order_lem s l.price (prices_of (set_level s n ls)) (set-leads l.price ls o.lead f) (set_order ls o.rest)))
      (λ f. rw f (in_order_lem s n.price (prices_of (l ∷ ls)) (ahead_or s l.price n.price (eqb-false _ _ e) f) h))))

  -- and what holds of each level
  pub set-every : (f : PriceLevel → Bool) (ls : List PriceLevel) → f n ≡ true → every f ls ≡ true → every f (set_level s n ls) ≡ true
  unfolding every set_level
  set-every f [] g h = rw g
  set-every f (l ∷ ls) g h =
      let p = (and-eq-true_iff (f l) _).0 h in
      by (eqb l.price n.price) (λ e. rw (e, g) p.1) (λ e. rw e (by (ahead_of s l.price n.price) (λ k. rw (k, p.0) (set-every f ls g p.1)) (λ k. rw (k, g) h)))

  -- with at most one level more
  pub set-length : (ls : List PriceLevel) → (length ls ≤ length (set_level s n ls)) × (length (set_level s n ls) ≤ length ls + 1)
  unfolding set_level
  set-length [] = omega arith
  set-length (l ∷ ls) =
      let h = set-length ls in
      by (eqb l.price n.price) (λ e. rw e (omega arith)) (λ e. rw e (by (ahead_of s l.price n.price) (λ f. rw f (omega arith)) (λ f. rw f (omega arith))))

module _ (p : ℕ) where
  -- Remove keeps what holds of each level
  pub remove-every : (f : PriceLevel → Bool) (ls : List PriceLevel) → every f ls ≡ true → every f (remove_level p ls) ≡ true
  unfolding every remove_level
  remove-every f [] h = h
  remove-every f (l ∷ ls) h =
      let q = (and-eq-true_iff (f l) _).0 h in
      by (eqb l.price p) (λ e. rw e q.1) (λ e. rw (e, q.0) (remove-every f ls q.1))

  -- with no level more
  pub remove-length : (ls : List PriceLevel) → length (remove_level p ls) ≤ length ls
  unfolding remove_level
  remove-length [] = omega arith
  remove-length (l ∷ ls) = let h = remove-length ls in by (eqb l.price p) (λ e. rw e (omega arith)) (λ e. rw e (omega arith))

module _ (s : Side) (p : ℕ) where
  -- what is ahead of the old first price is ahead of the new one
  pub remove-leads : (x : ℕ) (ls : List PriceLevel) → leads s x (prices_of ls) ≡ true → in_order s (prices_of ls) ≡ true → leads s x (prices_of (remove_level p ls)) ≡ true
  unfolding leads remove_level
  remove-leads x [] a h = refl
  remove-leads x (l ∷ ls) a h = by (eqb l.price p) (λ e. rw e (leads_on s x l.price (prices_of ls) a (ordered s l.price (prices_of ls) h).lead)) (λ e. rw e a)

  -- what is left after Remove is in order
  pub remove_order : (ls : List PriceLevel) → in_order s (prices_of ls) ≡ true → in_order s (prices_of (remove_level p ls)) ≡ true
  unfolding remove_level
  remove_order [] h = h
  remove_order (l ∷ ls) h =
      let o = ordered s l.price (prices_of ls) h in
      by (eqb l.price p) (λ e. rw e o.rest) (λ e. rw e (in_order_lem s l.price (prices_of (remove_level p ls)) (remove-leads l.price ls o.lead o.rest) (remove_order ls o.rest)))

  -- a price ahead of all the levels is absent
  pub remove_ahead : (ls : List PriceLevel) → leads s p (prices_of ls) ≡ true → in_order s (prices_of ls) ≡ true → remove_level p ls ≡ ls
  unfolding leads remove_level
  remove_ahead [] a h = refl
  remove_ahead (l ∷ ls) a h =
      let o = ordered s l.price (prices_of ls) h in
      rw (ne_eqb l.price p (λ e. ahead_not_same s p l.price a (sym e)), remove_ahead ls (leads_on s p l.price (prices_of ls) a o.lead) o.rest)
