-- A place in a list: what is put in or taken out there, and that Set and Remove do so at the place of the price.
use Prim.Native.Nat.{ℕ, zero, suc, ◌+◌, ◌≤◌, ◌<◌}
use native.Mathlib.Omega.{arith}
use mathlib.Core.Path.{◌≡◌, refl}
use mathlib.Core.Bool.{true}
use mathlib.Core.List.{List, [], ◌∷◌, ◌++◌, map, map-append}
use lib.ListN.{length, take, drop, set, length-append, length-drop}
use lib.Seq.{length-take-le}
use lib.Dec.{eqb}
use borrow.Author.Tests.{eqb-false}
use Rattle.types.specs.declared.Side.{Side}
use Rattle.types.specs.declared.PriceLevel.{PriceLevel}
use Rattle.types.proofs.Booleans.{by}
use Rattle.levels.specs.Order.{ahead_of, leads, in_order, place_from}
use Rattle.levels.specs.Table.{prices_of}
use Rattle.levels.specs.Change.{set_level, remove_level}
use Rattle.levels.specs.declared.Place.{Place}
use Rattle.levels.specs.declared.Place.TheVariants.{At, Before}
use Rattle.levels.proofs.Orders.{ahead_or, ordered, leads_on}
use Rattle.levels.proofs.Places.{next, place_next}
use Rattle.changes.proofs.Changes.{remove_ahead}

-- a list with a put over what stands at the place, or in between
abbrev pub put_at : {A : Type 0} → Place → A → List A → List A
put_at (At i) a xs = set xs i a
put_at (Before i) a xs = take i xs ++ (a ∷ drop i xs)

-- a list without what stands at the place
abbrev pub out_at : {A : Type 0} → Place → List A → List A
out_at (At i) xs = take i xs ++ drop (suc i) xs
out_at (Before i) xs = xs

-- how long they are
module _ {A : Type 0} (xs : List A) (i : ℕ) where
  pub put-length : (a : A) → i ≤ length xs → length (put_at (Before i) a xs) ≡ length xs + 1
  put-length a h = simp (length-append, length-drop, length-take-le) (omega arith)

  pub out_length : i < length xs → length (out_at (At i) xs) + 1 ≡ length xs
  out_length h = let le : i ≤ length xs = omega arith in simp (length-append, length-drop, length-take-le) (omega arith)

put_next : {A : Type 0} (w : Place) (a x : A) (xs : List A) → put_at (next w) a (x ∷ xs) ≡ x ∷ put_at w a xs
put_next (At i) a x xs = refl
put_next (Before i) a x xs = refl

out_next : {A : Type 0} (w : Place) (x : A) (xs : List A) → out_at (next w) (x ∷ xs) ≡ x ∷ out_at w xs
out_next (At i) x xs = refl
out_next (Before i) x xs = refl

-- Set puts the level at the place of its price, and Remove takes out what stands at the place of the price
pub set_place : (s : Side) (n : PriceLevel) (ls : List PriceLevel) → set_level s n ls ≡ put_at (place_from s n.price 0 (prices_of ls)) n ls
unfolding set_level place_from
set_place s n [] = refl
set_place s n (l ∷ ls) =
    by (eqb l.price n.price) (λ e. rw e)
    (λ e.
    rw e
    (by (ahead_of s l.price n.price)
    (λ a. rw (a, place_next s n.price (prices_of ls) 0, put_next, set_place s n ls))
    (λ a. rw a)))

pub remove_place : (s : Side) (p : ℕ) (ls : List PriceLevel) → in_order s (prices_of ls) ≡ true → remove_level p ls ≡ out_at (place_from s p 0 (prices_of ls)) ls
unfolding remove_level place_from leads
remove_place s p [] h = refl
remove_place s p (l ∷ ls) h =
    let o = ordered s l.price (prices_of ls) h in
    by (eqb l.price p) (λ e. rw e)
    (λ e.
    rw e
    (by (ahead_of s l.price p)
    (λ a. rw (a, place_next s p (prices_of ls) 0, out_next, remove_place s p ls o.rest))
    (λ a. rw (a, remove_ahead s p ls (leads_on s p l.price (prices_of ls) (ahead_or s l.price p (eqb-false _ _ e) a) o.lead) o.rest))))

-- a map goes through what is put in and taken out
module _ {A B : Type 0} (f : A → B) where
  map-take : (i : ℕ) (xs : List A) → map f (take i xs) ≡ take i (map f xs)
  map-take zero xs = refl
  map-take (suc i) [] = refl
  map-take (suc i) (x ∷ xs) = rw (map-take i xs)

  map-drop : (i : ℕ) (xs : List A) → map f (drop i xs) ≡ drop i (map f xs)
  map-drop zero xs = refl
  map-drop (suc i) [] = refl
  map-drop (suc i) (x ∷ xs) = map-drop i xs

  map-set : (i : ℕ) (a : A) (xs : List A) → map f (set xs i a) ≡ set (map f xs) i (f a)
  map-set i a [] = refl
  map-set zero a (x ∷ xs) = refl
  map-set (suc i) a (x ∷ xs) = rw (map-set i a xs)

  pub map-put : (w : Place) (a : A) (xs : List A) → map f (put_at w a xs) ≡ put_at w (f a) (map f xs)
  map-put (At i) a xs = map-set i a xs
  map-put (Before i) a xs = rw (map-append, map-take, map-drop)

  pub map_out : (w : Place) (xs : List A) → map f (out_at w xs) ≡ out_at w (map f xs)
  map_out (At i) xs = rw (map-append, map-take, map-drop)
  map_out (Before i) xs = refl
