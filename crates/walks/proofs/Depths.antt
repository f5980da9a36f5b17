-- The quantity at a price: whether there is one, what Set and Remove make of it, and what the search says of it and of the levels up to the price.
use Prim.Native.Nat.{ℕ, suc, ◌+◌, ◌-◌, ◌≤◌}
use native.Mathlib.Nat.{sub-zero}
use native.Mathlib.Omega.{arith}
use mathlib.Core.Path.{◌≡◌, refl, ap, sym, ◌∙◌}
use mathlib.Core.Bool.{Bool, true, false, cond, true≢false, false≢true}
use mathlib.Core.List.{List, [], ◌∷◌}
use lib.Dec.{eqb}
use lib.ListN.{take, get_or}
use borrow.Author.Tests.{eqb-true, eqb-false, ne_eqb}
use Rattle.types.specs.Replies.{Reply, done, refused}
use Rattle.types.specs.declared.Side.{Side}
use Rattle.types.specs.declared.PriceLevel.{PriceLevel}
use Rattle.levels.specs.declared.Place.TheVariants.{At, Before}
use Rattle.levels.specs.Order.{ahead_of, leads, in_order, place_from}
use Rattle.levels.specs.Inner.Found.{reached_in}
use Rattle.levels.specs.Table.{prices_of, quantities_of}
use Rattle.levels.specs.Change.{set_level, remove_level}
use Rattle.walks.specs.Walk.{up_to, has, depth_of}
use Rattle.types.proofs.Booleans.{by}
use Rattle.levels.proofs.Orders.{ahead_not_self, ahead_or, ahead_not_same, ahead_not_back, ordered, leads_on}
use Rattle.levels.proofs.Places.{place_next}
use Rattle.levels.proofs.Found.{reached_next}

-- a price is there exactly where its quantity is answered

-- whether a reply has an answer
abbrev pub answered : {A : Type 0} → Reply A → Bool
answered (done a) = true
answered (refused n vs) = false

module _ (p : ℕ) where
  pub has-answered : (ls : List PriceLevel) → has p ls ≡ answered (depth_of p ls)
  unfolding has depth_of
  has-answered [] = refl
  has-answered (l ∷ ls) =
      elim (eqb l.price p) as (λ u. cond u true (has p ls) ≡ answered (cond u (done l.quantity) (depth_of p ls))) [ true ↦ refl | false ↦ has-answered ls ]

  pub depth_some : (ls : List PriceLevel) → has p ls ≡ true → (q : ℕ) × (depth_of p ls ≡ done q)
  unfolding has depth_of
  depth_some [] = λ h. absurd (false≢true h)
  depth_some (l ∷ ls) =
      elim (eqb l.price p) as (λ u. cond u true (has p ls) ≡ true → (q : ℕ) × (cond u (done l.quantity) (depth_of p ls) ≡ done q))
      [ true ↦ λ h. (l.quantity, refl) | false ↦ λ h. depth_some ls h ]

  pub depth_none : (ls : List PriceLevel) → has p ls ≡ false → depth_of p ls ≡ refused 10 []
  unfolding has depth_of
  depth_none [] = λ h. refl
  depth_none (l ∷ ls) =
      elim (eqb l.price p) as (λ u. cond u true (has p ls) ≡ false → cond u (done l.quantity) (depth_of p ls) ≡ refused 10 [])
      [ true ↦ λ h. absurd (true≢false h) | false ↦ λ h. depth_none ls h ]

-- after Set, whatever the order

-- two tests that do not both hold may be made in either order
swap : {A : Type 0} (p a b : ℕ) (x y z : A) → (a ≡ b → ⊥) → cond (eqb a p) x (cond (eqb b p) y z) ≡ cond (eqb b p) y (cond (eqb a p) x z)
swap p a b x y z d =
    let go : (u v : Bool) → eqb a p ≡ u → eqb b p ≡ v → cond u x (cond v y z) ≡ cond v y (cond u x z) =
    elim [ true ↦ elim [ true ↦ λ e f. absurd (d (eqb-true a p e ∙ sym (eqb-true b p f))) | false ↦ λ e f. refl ] | false ↦ λ v e f. refl ] in
    go (eqb a p) (eqb b p) refl refl

twice : {A : Type 0} (u : Bool) (x y z : A) → cond u x z ≡ cond u x (cond u y z)
twice true x y z = refl
twice false x y z = refl

module _ (x : ℕ) (s : Side) (n : PriceLevel) where
  pub depth_set : (ls : List PriceLevel) → depth_of x (set_level s n ls) ≡ cond (eqb n.price x) (done n.quantity) (depth_of x ls)
  unfolding depth_of set_level
  depth_set [] = refl
  depth_set (l ∷ ls) =
      let go : (u v : Bool) → eqb l.price n.price ≡ u → depth_of x (cond u (n ∷ ls) (cond v (l ∷ set_level s n ls) (n ∷ l ∷ ls))) ≡ cond (eqb n.price x) (done n.quantity) (depth_of x (l ∷ ls)) =
      elim [
        | true ↦ λ v e. rw (eqb-true l.price n.price e) (twice (eqb n.price x) (done n.quantity) (done l.quantity) (depth_of x ls))
        | false ↦ elim [
          | true ↦ λ e. rw (depth_set ls) (swap x l.price n.price (done l.quantity) (done n.quantity) (depth_of x ls) (eqb-false _ _ e))
          | false ↦ λ e. refl
        ]
      ] in
      go (eqb l.price n.price) (ahead_of s l.price n.price) refl

-- levels in order

-- a price ahead of levels in order is at none of them
ahead_none : (s : Side) (p : ℕ) (ls : List PriceLevel) → leads s p (prices_of ls) ≡ true → in_order s (prices_of ls) ≡ true → depth_of p ls ≡ refused 10 []
unfolding depth_of leads
ahead_none s p [] f h = refl
ahead_none s p (l ∷ ls) f h =
    let o = ordered s l.price (prices_of ls) h in
    rw (ne_eqb l.price p (λ e. ahead_not_same s p l.price f (sym e))) (ahead_none s p ls (leads_on s p l.price (prices_of ls) f o.lead) o.rest)

pub depth_remove : (s : Side) (p x : ℕ) (ls : List PriceLevel) → in_order s (prices_of ls) ≡ true → depth_of x (remove_level p ls) ≡ cond (eqb p x) (refused 10 []) (depth_of x ls)
unfolding depth_of remove_level
depth_remove s p x [] h = elim (eqb p x) as (λ u. ◌≡◌ {A = Reply ℕ} (refused 10 []) (cond u (refused 10 []) (refused 10 []))) [ true ↦ refl | false ↦ refl ]
depth_remove s p x (l ∷ ls) h =
    let o = ordered s l.price (prices_of ls) h in
    let gone : (v : Bool) → eqb l.price x ≡ v → depth_of x ls ≡ cond v (refused 10 []) (cond v (done l.quantity) (depth_of x ls)) =
    elim [ true ↦ λ e. rw (← eqb-true l.price x e) (ahead_none s l.price ls o.lead o.rest) | false ↦ λ e. refl ] in
    let go : (u : Bool) → eqb l.price p ≡ u → depth_of x (cond u ls (l ∷ remove_level p ls)) ≡ cond (eqb p x) (refused 10 []) (depth_of x (l ∷ ls)) =
    elim [
      | true ↦ λ e. rw (← eqb-true l.price p e) (gone (eqb l.price x) refl)
      | false ↦ λ e. rw (depth_remove s p x ls o.rest) (swap x l.price p (done l.quantity) (refused 10 []) (depth_of x ls) (eqb-false _ _ e))
    ] in
    go (eqb l.price p) refl

-- what the search says

not-both : {A : Type 0} {k i : ℕ} → Before k ≡ At i → A
not-both e = let z : ◌≡◌ {A = ℕ} 0 1 = cc in absurd (omega arith)

at_from : (s : Side) (p k i : ℕ) (ls : List PriceLevel) → place_from s p k (prices_of ls) ≡ At i → (k ≤ i) × (depth_of p ls ≡ done (get_or (quantities_of ls) (i - k) 0))
unfolding place_from depth_of
at_from s p k i [] e = not-both e
at_from s p k i (l ∷ ls) e =
    let go : (u v : Bool) → cond u (At k) (cond v (place_from s p (k + 1) (prices_of ls)) (Before k)) ≡ At i → (k ≤ i) × (cond u (done l.quantity) (depth_of p ls) ≡ done (get_or (l.quantity ∷ quantities_of ls) (i - k) 0)) =
    elim [
      | true ↦ λ v q. let j : k ≡ i = cc in let z : i - k ≡ 0 = omega arith in (omega arith, rw z)
      | false ↦ elim [
        | true ↦ λ q. let r = at_from s p (k + 1) i ls q in let j : i - k ≡ suc (i - (k + 1)) = omega arith in (omega arith, rw j r.1)
        | false ↦ λ q. not-both q
      ]
    ] in
    go (eqb l.price p) (ahead_of s l.price p) e

pub depth_at_lem : (s : Side) (p i : ℕ) (ls : List PriceLevel) → place_from s p 0 (prices_of ls) ≡ At i → depth_of p ls ≡ done (get_or (quantities_of ls) i 0)
depth_at_lem s p i ls e = rw sub-zero at (at_from s p 0 i ls e).1

pub depth_before : (s : Side) (p k i : ℕ) (ls : List PriceLevel) → in_order s (prices_of ls) ≡ true → place_from s p k (prices_of ls) ≡ Before i → depth_of p ls ≡ refused 10 []
unfolding place_from depth_of
depth_before s p k i [] h e = refl
depth_before s p k i (l ∷ ls) h e =
    let o = ordered s l.price (prices_of ls) h in
    let go : (u v : Bool) → eqb l.price p ≡ u → ahead_of s l.price p ≡ v → cond u (At k) (cond v (place_from s p (k + 1) (prices_of ls)) (Before k)) ≡ Before i → cond u (done l.quantity) (depth_of p ls) ≡ refused 10 [] =
    elim [
      | true ↦ λ v d a q. not-both (sym q)
      | false ↦ elim [
        | true ↦ λ d a q. depth_before s p (k + 1) i ls o.rest q
        | false ↦ λ d a q. ahead_none s p ls (leads_on s p l.price (prices_of ls) (ahead_or s l.price p (eqb-false _ _ d) a) o.lead) o.rest
      ]
    ] in
    go (eqb l.price p) (ahead_of s l.price p) refl refl e

-- the levels at the price or ahead of it are as many as it reaches

none_up_to : (s : Side) (p : ℕ) (ls : List PriceLevel) → leads s p (prices_of ls) ≡ true → in_order s (prices_of ls) ≡ true → up_to s p ls ≡ []
unfolding up_to leads
none_up_to s p [] f h = refl
none_up_to s p (l ∷ ls) f h =
    let o = ordered s l.price (prices_of ls) h in
    rw f (none_up_to s p ls (leads_on s p l.price (prices_of ls) f o.lead) o.rest)

pub up_to_found : (s : Side) (p : ℕ) (ls : List PriceLevel) → in_order s (prices_of ls) ≡ true → up_to s p ls ≡ take (reached_in (place_from s p 0 (prices_of ls))) ls
unfolding up_to place_from leads
up_to_found s p [] h = refl
up_to_found s p (l ∷ ls) h =
    let x = l.price in
    let o = ordered s x (prices_of ls) h in
    by (ahead_of s x p)
    (λ a. rw (a, ne_eqb x p (ahead_not_same s x p a), ahead_not_back s x p a, place_next s p (prices_of ls) 0, reached_next) (rw (up_to_found s p ls o.rest)))
    (λ a.
    by (eqb x p)
    (λ e. let q = eqb-true x p e in rw (e, q, ahead_not_self s p, none_up_to s p ls (rw q at o.lead) o.rest))
    (λ e. rw (e, a) (none_up_to s p (l ∷ ls) (ahead_or s x p (eqb-false x p e) a) h)))

-- the same of whether the price is there

answered-cond : (u : Bool) (r t : Reply ℕ) → answered (cond u r t) ≡ cond u (answered r) (answered t)
answered-cond true r t = refl
answered-cond false r t = refl

module _ (x : ℕ) (s : Side) where
  pub has-set : (n : PriceLevel) (ls : List PriceLevel) → has x (set_level s n ls) ≡ cond (eqb n.price x) true (has x ls)
  has-set n ls = rw (has-answered x (set_level s n ls), has-answered x ls, depth_set x s n ls) (answered-cond (eqb n.price x) (done n.quantity) (depth_of x ls))

  pub has-remove : (p : ℕ) (ls : List PriceLevel) → in_order s (prices_of ls) ≡ true → has x (remove_level p ls) ≡ cond (eqb p x) false (has x ls)
  has-remove p ls h = rw (has-answered x (remove_level p ls), has-answered x ls, depth_remove s p x ls h) (answered-cond (eqb p x) (refused 10 []) (depth_of x ls))

  pub has-at : (i : ℕ) (ls : List PriceLevel) → place_from s x 0 (prices_of ls) ≡ At i → has x ls ≡ true
  has-at i ls e = has-answered x ls ∙ ap answered (depth_at_lem s x i ls e)

  pub has-before : (i : ℕ) (ls : List PriceLevel) → in_order s (prices_of ls) ≡ true → place_from s x 0 (prices_of ls) ≡ Before i → has x ls ≡ false
  has-before i ls h e = has-answered x ls ∙ ap answered (depth_before s x 0 i ls h e)
