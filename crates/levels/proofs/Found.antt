-- The place of a price among prices in order counts those ahead of it, those at it and those behind it.
use Prim.Native.Nat.{ℕ, suc, ◌+◌, ◌≤◌}
use native.Mathlib.Omega.{arith}
use native.Mathlib.Nat.{zero-add}
use mathlib.Core.Path.{◌≡◌, refl}
use mathlib.Core.Bool.{true}
use mathlib.Core.List.{List, [], ◌∷◌}
use lib.ListN.{length, take, get_or, length-take}
use lib.Dec.{eqb}
use borrow.Author.Tests.{eqb-true, eqb-false, ne_eqb}
use Rattle.types.specs.declared.Side.{Side}
use Rattle.types.proofs.Booleans.{by}
use Rattle.levels.specs.declared.Place.{Place}
use Rattle.levels.specs.declared.Place.TheVariants.{At, Before}
use Rattle.levels.specs.Order.{ahead_of, leads, in_order, count_ahead, place_from}
use Rattle.levels.specs.Inner.Found.{ahead_in, reached_in}
use Rattle.levels.proofs.Orders.{ahead_not_self, ahead_or, ahead_not_same, ahead_not_back, ordered, leads_on, counted}
use Rattle.levels.proofs.Places.{next, InList, place_next, place_in}

-- counted from one further in front, one more
pub reached_next : (w : Place) → reached_in (next w) ≡ suc (reached_in w)
reached_next (At i) = omega arith
reached_next (Before i) = refl

reached_list : (w : Place) (n : ℕ) → InList w n → reached_in w ≤ n
reached_list (At i) n h = omega arith
reached_list (Before i) n h = omega arith

module _ (s : Side) (p : ℕ) where
  -- of n prices at most n are at the price or ahead of it
  pub reached_few : (xs : List ℕ) (n : ℕ) → reached_in (place_from s p 0 (take n xs)) ≤ n
  reached_few xs n = omega (arith, reached_list (place_from s p 0 (take n xs)) (length (take n xs)) (place_in s p (take n xs)), length-take n xs)

  -- those ahead
  pub ahead_found : (xs : List ℕ) → in_order s xs ≡ true → count_ahead s p xs ≡ ahead_in (place_from s p 0 xs)
  ahead_found xs h = let k = count_ahead s p xs in rw (counted s p xs 0 h, zero-add) (by (eqb (get_or xs k (suc p)) p) (λ e. rw e) (λ e. rw e))

-- those behind: they are ahead on the other side o, where prices come the other way round
module _ (s o : Side) (turn : (a b : ℕ) → ahead_of o a b ≡ ahead_of s b a) (p : ℕ) where
  all-behind : (xs : List ℕ) → leads s p xs ≡ true → in_order s xs ≡ true → count_ahead o p xs ≡ length xs
  unfolding count_ahead leads
  all-behind [] f h = refl
  all-behind (x ∷ xs) f h = let r = ordered s x xs h in rw (turn x p, f, all-behind xs (leads_on s p x xs f r.lead) r.rest)

  pub behind_found : (xs : List ℕ) → in_order s xs ≡ true → reached_in (place_from s p 0 xs) + count_ahead o p xs ≡ length xs
  unfolding count_ahead place_from leads
  behind_found [] h = refl
  behind_found (x ∷ xs) h =
      let r = ordered s x xs h in
      by (ahead_of s x p)
      (λ a.
      let k = behind_found xs r.rest in
      rw (a, ne_eqb x p (ahead_not_same s x p a), place_next s p xs 0, reached_next, turn x p, ahead_not_back s x p a) (omega arith))
      (λ a.
      by (eqb x p)
      (λ e. let q = eqb-true x p e in rw (e, turn x p, q, ahead_not_self s p, all-behind xs (rw q at r.lead) r.rest) (omega arith))
      (λ e. rw (e, a, all-behind (x ∷ xs) (ahead_or s x p (eqb-false x p e) a) h, zero-add)))
