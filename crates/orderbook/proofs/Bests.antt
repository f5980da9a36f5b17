-- Whether the sides meet after Set or Remove, from the price of the change and the other side's best price alone.
use Prim.Native.Nat.{ℕ, ◌≤◌}
use native.Mathlib.Omega.{arith}
use mathlib.Core.Path.{◌≡◌, refl, sym, ◌∙◌}
use mathlib.Core.Bool.{Bool, true, false, not, and-eq-true_iff, false≢true}
use mathlib.Core.List.{List, [], ◌∷◌}
use lib.Dec.{leb, ltb, eqb}
use lib.ListN.{get_or}
use borrow.Author.Tests.{leb-true, leb-false, le-leb, lt-leb, ltb-true, lt-ltb, le-ltb, not-true}
use Rattle.types.specs.Limits.{is_price, is_quantity, max_price}
use Rattle.types.specs.declared.Side.{Side}
use Rattle.types.specs.declared.Side.TheVariants.{Bid, Ask}
use Rattle.types.specs.declared.PriceLevel.{PriceLevel}
use Rattle.levels.specs.Order.{ahead_of, leads, in_order}
use Rattle.levels.specs.Table.{prices_of}
use Rattle.levels.specs.Formed.{every, in_limits}
use Rattle.levels.specs.Change.{set_level, remove_level}
use Rattle.types.proofs.Booleans.{by}
use Rattle.levels.proofs.Orders.{ordered}
use Rattle.sides.specs.Best.{best_of, is_apart}
use Rattle.orderbook.specs.Apply.{best_price}
use Rattle.deltas.specs.Inner.Deciding.{meets}

-- a side's levels and the other's stand apart
abbrev pub apart_on : Side → List PriceLevel → List PriceLevel → Bool
apart_on Bid ls other = is_apart (best_of ls) (best_of other)
apart_on Ask ls other = is_apart (best_of other) (best_of ls)

pub best-first : (ls : List PriceLevel) → get_or (prices_of ls) 0 0 ≡ best_price ls
best-first [] = refl
best-first (l ∷ ls) = refl

pub priced : (p : ℕ) → is_price p ≡ true → 1 ≤ p
priced p h = leb-true 1 p ((and-eq-true_iff (leb 1 p) (leb p max_price)).0 h).0

pub first_priced : (l : PriceLevel) (ls : List PriceLevel) → every in_limits (l ∷ ls) ≡ true → 1 ≤ l.price
unfolding every
first_priced l ls h =
    let a = (and-eq-true_iff (in_limits l) (every in_limits ls)).0 h in
    priced l.price ((and-eq-true_iff (is_price l.price) (is_quantity l.quantity)).0 a.0).0

below : (a b : ℕ) → ltb a b ≡ not (leb b a)
below a b = by (leb b a) (λ e. rw (e, le-ltb a b (leb-true b a e))) (λ e. rw (e, lt-ltb a b (leb-false b a e)))

-- a side with a best price stands apart where that price does not meet the other's
pub apart-first :
    (s : Side) (l : PriceLevel) (ls other : List PriceLevel) → 1 ≤ l.price → every in_limits other ≡ true →
    apart_on s (l ∷ ls) other ≡ not (meets s l.price (best_price other))
unfolding best_of is_apart
apart-first Bid l ls [] p h = refl
apart-first Bid l ls (o ∷ os) p h = rw (le-leb 1 o.price (first_priced o os h)) (below l.price o.price)
apart-first Ask l ls [] p h = rw (lt-leb l.price 0 (omega arith))
apart-first Ask l ls (o ∷ os) p h = below o.price l.price

pub apart_none : (s : Side) (other : List PriceLevel) → apart_on s [] other ≡ true
unfolding best_of is_apart
apart_none Bid other = refl
apart_none Ask [] = refl
apart_none Ask (o ∷ os) = refl

-- a price behind one that does not meet the other side does not meet it
later : (s : Side) (x y best : ℕ) → ahead_of s x y ≡ true → meets s x best ≡ false → meets s y best ≡ false
later Bid x y best a m =
    by (leb 1 best) (λ e. rw e (lt-leb best y (omega (arith, leb-false best x (rw e at m), ltb-true y x a)))) (λ e. rw e)
later Ask x y best a m = lt-leb y best (omega (arith, leb-false x best m, ltb-true x y a))

module _ (s : Side) (other : List PriceLevel) (h : every in_limits other ≡ true) where
  -- a price behind the first of a side that stands apart does not meet the other side
  behind : (l : PriceLevel) (ls : List PriceLevel) (y : ℕ) → 1 ≤ l.price → apart_on s (l ∷ ls) other ≡ true → ahead_of s l.price y ≡ true → meets s y (best_price other) ≡ false
  behind l ls y p k a = later s l.price y (best_price other) a (not-true _ (sym (apart-first s l ls other p h) ∙ k))

  module _ (n : PriceLevel) (p : 1 ≤ n.price) where
    -- Set meets the other side where its own price does
    pub set_apart : (ls : List PriceLevel) → every in_limits ls ≡ true → apart_on s ls other ≡ true → apart_on s (set_level s n ls) other ≡ not (meets s n.price (best_price other))
    unfolding set_level
    set_apart [] w k = apart-first s n [] other p h
    set_apart (l ∷ ls) w k =
        by (eqb l.price n.price) (λ e. rw e (apart-first s n ls other p h))
        (λ e.
        rw e
        (by (ahead_of s l.price n.price)
        (λ a. let q = first_priced l ls w in rw (a, apart-first s l (set_level s n ls) other q h, ← apart-first s l ls other q h, k, behind l ls n.price q k a))
        (λ a. rw a (apart-first s n (l ∷ ls) other p h))))

    -- and then its price is the best
    pub set-best : (ls : List PriceLevel) → every in_limits ls ≡ true → apart_on s ls other ≡ true → meets s n.price (best_price other) ≡ true → best_price (set_level s n ls) ≡ n.price
    unfolding set_level
    set-best [] w k m = refl
    set-best (l ∷ ls) w k m =
        by (eqb l.price n.price) (λ e. rw e)
        (λ e.
        rw e
        (by (ahead_of s l.price n.price)
        (λ a. absurd (false≢true (sym (behind l ls n.price (first_priced l ls w) k a) ∙ m)))
        (λ a. rw a)))

  -- Remove never makes the sides meet
  pub remove_apart : (p : ℕ) (ls : List PriceLevel) → every in_limits ls ≡ true → in_order s (prices_of ls) ≡ true → apart_on s ls other ≡ true → apart_on s (remove_level p ls) other ≡ true
  unfolding remove_level leads every
  remove_apart p [] w o k = k
  remove_apart p (l ∷ []) w o k = by (eqb l.price p) (λ e. rw e (apart_none s other)) (λ e. rw e k)
  remove_apart p (l ∷ m ∷ ls) w o k =
      let q = first_priced l (m ∷ ls) w in
      let r = first_priced m ls ((and-eq-true_iff (in_limits l) (every in_limits (m ∷ ls))).0 w).1 in
      by (eqb l.price p)
      (λ e. rw (e, apart-first s m ls other r h, behind l (m ∷ ls) m.price q k (ordered s l.price (prices_of (m ∷ ls)) o).lead))
      (λ e. rw (e, apart-first s l (remove_level p (m ∷ ls)) other q h, ← apart-first s l (m ∷ ls) other q h) k)
