-- Totals, costs and prices reached: what they are in a table's rows, and how large they get.
use Prim.Native.Nat.{ℕ, zero, suc, ◌+◌, ◌-◌, ◌*◌, ◌≤◌}
use native.Mathlib.Nat.{mul-le-mul_right, mul-add}
use native.Mathlib.Omega.{arith}
use mathlib.Core.Path.{◌≡◌, refl, ap, ◌∙◌}
use mathlib.Core.Bool.{Bool, true, false, cond, and-eq-true_iff, false≢true}
use mathlib.Core.List.{List, [], ◌∷◌, map}
use lib.Dec.{leb, eqb}
use lib.ListN.{length, take}
use borrow.Author.Tests.{leb-true, leb-false, eqb-true, eq-eqb}
use Rattle.types.specs.Limits.{is_price, is_quantity, max_price, max_quantity, max_levels, max_volume}
use Rattle.types.specs.declared.PriceLevel.{PriceLevel}
use Rattle.levels.specs.declared.Levels.{Levels}
use Rattle.levels.specs.Table.{quantities_of, levels}
use Rattle.levels.specs.Formed.{every, in_limits}
use Rattle.walks.specs.Walk.{sum_of, total_of, cost_of, reach_from, has}
use Rattle.levels.proofs.Tables.{levels_quantities}
use Rattle.walks.proofs.Turns.{Lent}

-- a level within the limits, unpacked
pub record Within (l : PriceLevel) : Type 0 where
  pub some : 1 ≤ l.price
  pub cheap : l.price ≤ max_price
  pub small : l.quantity ≤ max_quantity

pub within_limits : (l : PriceLevel) → in_limits l ≡ true → Within l
within_limits l h =
    let a = (and-eq-true_iff (is_price l.price) (is_quantity l.quantity)).0 h in
    let b = (and-eq-true_iff (leb 1 l.price) (leb l.price max_price)).0 a.0 in
    record { some = leb-true _ _ b.0; cheap = leb-true _ _ b.1; small = leb-true _ _ a.1 }

-- a test that holds of each holds of the first and of each behind it
pub every-parts : {A : Type 0} (f : A → Bool) (x : A) (xs : List A) → every f (x ∷ xs) ≡ true → (f x ≡ true) × (every f xs ≡ true)
unfolding every
every-parts f x xs h = (and-eq-true_iff (f x) (every f xs)).0 h

-- totals

pub sum-take : (k : ℕ) (xs : List ℕ) → sum_of (take k xs) ≤ sum_of xs
unfolding sum_of
sum-take zero xs = omega arith
sum-take (suc k) [] = omega arith
sum-take (suc k) (x ∷ xs) = let r = sum-take k xs in omega arith

map-take : {A B : Type 0} (f : A → B) (k : ℕ) (xs : List A) → map f (take k xs) ≡ take k (map f xs)
map-take f zero xs = refl
map-take f (suc k) [] = refl
map-take f (suc k) (x ∷ xs) = rw (map-take f k xs)

module _ (t : Levels) (w : Lent t.prices t.quantities t.count) where
  pub quantities_rows : quantities_of (levels t) ≡ take t.count t.quantities
  quantities_rows = levels_quantities t (record { ps = w.0; qs = w.1 }) w.2

  pub total-rows : total_of (levels t) ≡ sum_of (take t.count t.quantities)
  total-rows = ap sum_of quantities_rows

  -- the best k levels
  pub total-best : (k : ℕ) → total_of (take k (levels t)) ≡ sum_of (take k (take t.count t.quantities))
  total-best k = rw (map-take (λ (l : PriceLevel). l.quantity) k (levels t), quantities_rows)

-- bounds, from any test that keeps a level's quantity or price at most m

module _ (f : PriceLevel → Bool) (m : ℕ) where
  pub total_bound : ((l : PriceLevel) → f l ≡ true → l.quantity ≤ m) → (ls : List PriceLevel) → every f ls ≡ true → total_of ls ≤ length ls * m
  unfolding sum_of
  total_bound g [] h = omega arith
  total_bound g (l ∷ ls) h =
      let o = every-parts f l ls h in
      let r = total_bound g ls o.1 in
      omega (arith, g l o.0)

  pub cost_bound : ((l : PriceLevel) → f l ≡ true → l.price ≤ m) → (target : ℕ) (ls : List PriceLevel) → every f ls ≡ true → cost_of target ls ≤ m * target
  unfolding cost_of
  cost_bound g target [] h = omega arith
  cost_bound g target (l ∷ ls) h =
      let o = every-parts f l ls h in
      let r = cost_bound g (target - l.quantity) ls o.1 in
      let k₁ : l.price * target ≤ m * target = mul-le-mul_right target (g l o.0) in
      let k₂ : l.price * l.quantity ≤ m * l.quantity = mul-le-mul_right l.quantity (g l o.0) in
      let go : (u : Bool) → leb target l.quantity ≡ u → cond u (l.price * target) (l.price * l.quantity + cost_of (target - l.quantity) ls) ≤ m * target =
      elim [
        | true ↦ λ e. k₁
        | false ↦ λ e.
            let d : target ≡ l.quantity + (target - l.quantity) = omega (arith, leb-false target l.quantity e) in
            let j : m * target ≡ m * l.quantity + m * (target - l.quantity) = ap (λ (x : ℕ). m * x) d ∙ mul-add m l.quantity (target - l.quantity) in
            omega arith
      ] in
      go (leb target l.quantity) refl

module _ (ls : List PriceLevel) (h : every in_limits ls ≡ true) where
  pub total_limit : length ls ≤ max_levels → total_of ls ≤ max_volume
  total_limit few = omega (arith, total_bound in_limits max_quantity (λ l e. (within_limits l e).small) ls h)

  pub cost_limit : (target : ℕ) → cost_of target ls ≤ max_price * target
  cost_limit target = cost_bound in_limits max_price (λ l e. (within_limits l e).cheap) target ls h

-- prices reached

has-next : (p : ℕ) (l : PriceLevel) (ls : List PriceLevel) → has p ls ≡ true → has p (l ∷ ls) ≡ true
unfolding has
has-next p l ls h = elim (eqb l.price p) as (λ u. cond u true (has p ls) ≡ true) [ true ↦ refl | false ↦ h ]

has_first : (l : PriceLevel) (ls : List PriceLevel) → has l.price (l ∷ ls) ≡ true
unfolding has
has_first l ls = rw (eq-eqb l.price l.price refl)

-- the price reached is one of the levels'
pub reach_has : (last target : ℕ) (ls : List PriceLevel) → 1 ≤ length ls → has (reach_from last target ls) ls ≡ true
unfolding reach_from
reach_has last target [] h = absurd (omega arith)
reach_has last target (l ∷ []) h =
    elim (leb target l.quantity) as (λ u. has (cond u l.price l.price) (l ∷ []) ≡ true) [ true ↦ has_first l [] | false ↦ has_first l [] ]
reach_has last target (l ∷ m ∷ ls) h =
    elim (leb target l.quantity) as (λ u. has (cond u l.price (reach_from l.price (target - l.quantity) (m ∷ ls))) (l ∷ m ∷ ls) ≡ true)
    [ true ↦ has_first l (m ∷ ls) | false ↦ has-next _ l (m ∷ ls) (reach_has l.price (target - l.quantity) (m ∷ ls) (omega arith)) ]

-- a price of levels within the limits is within them
pub has_price_lem : (p : ℕ) (ls : List PriceLevel) → every in_limits ls ≡ true → has p ls ≡ true → (1 ≤ p) × (p ≤ max_price)
unfolding has
has_price_lem p [] h e = absurd (false≢true e)
has_price_lem p (l ∷ ls) h e =
    let o = every-parts in_limits l ls h in
    let b = within_limits l o.0 in
    let go : (u : Bool) → eqb l.price p ≡ u → cond u true (has p ls) ≡ true → (1 ≤ p) × (p ≤ max_price) =
    elim [ true ↦ λ q k. omega (arith, eqb-true l.price p q) | false ↦ λ q k. has_price_lem p ls o.1 k ] in
    go (eqb l.price p) refl e

pub reach_price : (last target : ℕ) (ls : List PriceLevel) → 1 ≤ length ls → every in_limits ls ≡ true → (1 ≤ reach_from last target ls) × (reach_from last target ls ≤ max_price)
reach_price last target ls k h = has_price_lem (reach_from last target ls) ls h (reach_has last target ls k)
