-- Limits from fewer tests: of prices in order by the first and the last, of a row with zeros behind its first n by the whole row.
use Prim.Native.Nat.{ℕ, zero, suc, ◌-◌, ◌≤◌, ◌<◌}
use native.Mathlib.Omega.{arith}
use mathlib.Core.Path.{◌≡◌, refl}
use mathlib.Core.Bool.{true, false, ◌&&◌, and-eq-true_iff, and_self, and-true, and-false}
use mathlib.Core.List.{List, [], ◌∷◌}
use lib.ListN.{length, take, drop, get_or}
use lib.Seq.{length-take-le, get_or-take}
use lib.Dec.{leb}
use borrow.Author.Tests.{ltb-true, ltb-false, leb-true, le-leb}
use Rattle.types.specs.Limits.{within}
use Rattle.types.specs.declared.Side.{Side}
use Rattle.types.specs.declared.Side.TheVariants.{Bid, Ask}
use Rattle.levels.specs.Order.{ahead_of, leads, in_order}
use Rattle.levels.specs.Formed.{every, zeros}
use Rattle.types.proofs.Booleans.{by}
use Rattle.levels.proofs.Orders.{ahead_not_self, ahead_trans, ahead_not_back, ordered}

-- what lies in the limits, in numbers
pub within_le : (lo hi x : ℕ) → within lo hi x ≡ true → (lo ≤ x) × (x ≤ hi)
within_le lo hi x h = let a = (and-eq-true_iff (leb lo x) _).0 h in (leb-true lo x a.0, leb-true x hi a.1)

pub le_within : (lo hi x : ℕ) → lo ≤ x → x ≤ hi → within lo hi x ≡ true
le_within lo hi x h k = rw (le-leb lo x h, le-leb x hi k)

module _ (lo hi : ℕ) where
  -- a price behind one in the limits, and not behind another, is in them
  between : (s : Side) (a b c : ℕ) → ahead_of s a b ≡ true → ahead_of s c b ≡ false → within lo hi a ≡ true → within lo hi c ≡ true → within lo hi b ≡ true
  between Bid a b c h k u v = let p = within_le lo hi a u in let q = within_le lo hi c v in le_within lo hi b (omega (arith, ltb-false b c k)) (omega (arith, ltb-true b a h))
  between Ask a b c h k u v = let p = within_le lo hi a u in let q = within_le lo hi c v in le_within lo hi b (omega (arith, ltb-true a b h)) (omega (arith, ltb-false c b k))

module _ (s : Side) where
  -- what is ahead of the first is ahead of the last, and the last is not ahead of the first
  ahead_last : (a x : ℕ) (xs : List ℕ) → ahead_of s a x ≡ true → in_order s (x ∷ xs) ≡ true → ahead_of s a (get_or (x ∷ xs) (length xs) 0) ≡ true
  unfolding leads
  ahead_last a x [] h k = h
  ahead_last a x (y ∷ ys) h k = let o = ordered s x (y ∷ ys) k in ahead_last a y ys (ahead_trans s a x y h o.lead) o.rest

  last-behind : (x : ℕ) (xs : List ℕ) → in_order s (x ∷ xs) ≡ true → ahead_of s (get_or (x ∷ xs) (length xs) 0) x ≡ false
  unfolding leads
  last-behind x [] k = ahead_not_self s x
  last-behind x (y ∷ ys) k = let o = ordered s x (y ∷ ys) k in ahead_not_back s x _ (ahead_last x y ys o.lead o.rest)

  module _ (lo hi : ℕ) where
    -- prices in order are in the limits where the first and the last are
    by_ends : (x : ℕ) (xs : List ℕ) → in_order s (x ∷ xs) ≡ true → every (within lo hi) (x ∷ xs) ≡ within lo hi x && within lo hi (get_or (x ∷ xs) (length xs) 0)
    unfolding every leads
    by_ends x [] k = rw (and-true (within lo hi x), and_self (within lo hi x))
    by_ends x (y ∷ ys) k =
        let o = ordered s x (y ∷ ys) k in
        let z = get_or (y ∷ ys) (length ys) 0 in
        let e : every (within lo hi) (y ∷ ys) ≡ within lo hi y && within lo hi z = by_ends y ys o.rest in
        by (within lo hi x)
        (λ u. by (within lo hi z) (λ v. rw (u, e, v, between lo hi s x y z o.lead (last-behind y ys o.rest) u v)) (λ v. rw (u, e, v, and-false)))
        (λ u. rw u)

    -- and so the first n places of a row, if there are any
    pub ends_row : (xs : List ℕ) (n : ℕ) → n ≤ length xs → 0 < n → in_order s (take n xs) ≡ true → every (within lo hi) (take n xs) ≡ within lo hi (get_or xs 0 0) && within lo hi (get_or xs (n - 1) 0)
    ends_row xs zero l h k = absurd (omega arith)
    ends_row [] (suc m) l h k = absurd (omega arith)
    ends_row (x ∷ xs) (suc m) l h k =
        let e : length (take m xs) ≡ m = length-take-le m xs (omega arith) in
        let at : get_or (x ∷ take m xs) m 0 ≡ get_or (x ∷ xs) m 0 = get_or-take (suc m) (x ∷ xs) m 0 (omega arith) in
        let j : suc m - 1 ≡ m = omega arith in
        rw (j, ← at) (rw e at (by_ends x (take m xs) k))

-- what is in limits is in wider ones
pub wider : (lo hi : ℕ) (xs : List ℕ) → lo ≤ hi → every (within 0 lo) xs ≡ true → every (within 0 hi) xs ≡ true
unfolding every
wider lo hi [] l h = refl
wider lo hi (x ∷ xs) l h =
    let a = (and-eq-true_iff (within 0 lo x) _).0 h in
    let u = within_le 0 lo x a.0 in
    rw (le_within 0 hi x (omega arith) (omega arith)) (wider lo hi xs l a.1)

-- and zeros in any, so a row with zeros from the place n on is in them where its first n are
pub whole_row : (hi n : ℕ) (xs : List ℕ) → zeros (drop n xs) ≡ true → every (within 0 hi) xs ≡ every (within 0 hi) (take n xs)
unfolding every
whole_row hi zero xs h = wider 0 hi xs (omega arith) h
whole_row hi (suc n) [] h = refl
whole_row hi (suc n) (x ∷ xs) h = rw (whole_row hi n xs h)
