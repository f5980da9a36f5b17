-- The levels of a run: how many they are, where each stands in the rows, and that a run of a side's levels is one of the rows' places.
use Prim.Native.Nat.{ℕ, zero, suc, ◌+◌, ◌-◌, ◌≤◌, ◌<◌}
use native.Mathlib.Omega.{arith}
use native.Mathlib.Nat.{add-zero, eq-or-lt_of_le}
use mathlib.Core.Path.{◌≡◌, refl, sym, ◌∙◌}
use mathlib.Core.Logic.{⊎_elim}
use mathlib.Core.List.{List, [], ◌∷◌}
use lib.ListN.{length, take, drop, get_or, length-append, length-drop, get_or-append}
use lib.Seq.{length-take-le, take_all, take-take, get_or-take, get_or-drop, get_or_at}
use Rattle.types.specs.Limits.{max_levels}
use Rattle.types.specs.declared.PriceLevel.{PriceLevel}
use Rattle.types.proofs.Booleans.{by}
use Rattle.levels.specs.declared.Levels.{Levels}
use Rattle.levels.specs.Table.{level, paired, levels, rows}
use Rattle.levels.proofs.Tables.{Sized, levels-length, levels_cons}
use Rattle.listings.specs.declared.run.Run.{Run}
use Rattle.listings.specs.Listed.{turned}
use Rattle.listings.specs.Inner.Runs.{every_place, in_run, place_of}

turned-length : (ls : List PriceLevel) → length (turned ls) ≡ length ls
unfolding turned
turned-length [] = refl
turned-length (l ∷ ls) = let e = turned-length ls in omega (arith, length-append (turned ls) (l ∷ []))

turned-at : (ls : List PriceLevel) (i : ℕ) (d : PriceLevel) → i < length ls → get_or (turned ls) i d ≡ get_or ls (length ls - 1 - i) d
unfolding turned
turned-at [] i d h = absurd (omega arith)
turned-at (l ∷ ls) i d h =
    let n = turned-length ls in
    let k : i ≤ length ls = omega arith in
    ⊎_elim
    (λ e.
    let z : suc (length ls) - 1 - i ≡ 0 = omega arith in
    rw (z, get_or_at (turned ls) l [] d i (omega arith)))
    (λ m.
    let z : suc (length ls) - 1 - i ≡ suc (length ls - 1 - i) = omega arith in
    rw (z, get_or-append (turned ls) (l ∷ []) d i (omega arith), turned-at ls i d (omega arith)))
    (eq-or-lt_of_le k)

module _ (r : Run) (ls : List PriceLevel) (h : r.from + r.count ≤ length ls) where
  -- the run before it is turned
  abbrev straight : List PriceLevel
  straight = take r.count (drop r.from ls)

  straight-length : length straight ≡ r.count
  straight-length = length-take-le r.count (drop r.from ls) (omega (arith, length-drop r.from ls))

  straight-at : (i : ℕ) (d : PriceLevel) → i < r.count → get_or straight i d ≡ get_or ls (r.from + i) d
  straight-at i d k = get_or-take r.count (drop r.from ls) i d k ∙ get_or-drop r.from ls i d

  run_length : length (in_run r ls) ≡ r.count
  run_length = by r.turned (λ e. rw (e, turned-length straight) straight-length) (λ e. rw e straight-length)

  run_at : (i : ℕ) (d : PriceLevel) → i < r.count → get_or (in_run r ls) i d ≡ get_or ls (place_of r i) d
  run_at i d k =
      by r.turned
      (λ e. rw (e, turned-at straight i d (rw straight-length k), straight-length) (straight-at (r.count - 1 - i) d (omega arith)))
      (λ e. rw e (straight-at i d k))

-- a run of every place of two rows
module _ (ps qs : List ℕ) (p : length ps ≡ max_levels) (q : length qs ≡ max_levels) where
  full_sized : Sized (rows ps qs max_levels)
  full_sized = record { ps = p; qs = q }

  every-length : length (every_place ps qs) ≡ max_levels
  every-length = levels-length (rows ps qs max_levels) full_sized (omega arith)

  every-at : (j : ℕ) (d : PriceLevel) → j < max_levels → get_or (every_place ps qs) j d ≡ level (get_or ps j 0) (get_or qs j 0)
  every-at j d h = rw add-zero at (sym (get_or-drop j (every_place ps qs) 0 d)) ∙ rw (levels_cons (rows ps qs max_levels) full_sized (omega arith) j h)

  module _ (r : Run) (h : r.from + r.count ≤ max_levels) where
    pub placed-length : length (in_run r (every_place ps qs)) ≡ r.count
    placed-length = run_length r (every_place ps qs) (rw every-length h)

    pub placed_at :
        (i j : ℕ) → i < r.count → j ≡ place_of r i → j < max_levels →
        get_or (in_run r (every_place ps qs)) i (level 0 0) ≡ level (get_or ps j 0) (get_or qs j 0)
    placed_at i j k e l = run_at r (every_place ps qs) (rw every-length h) i (level 0 0) k ∙ rw (sym e) (every-at j (level 0 0) l)

-- the levels of a table are its first places
take-paired : (n : ℕ) (ps qs : List ℕ) → take n (paired ps qs) ≡ paired (take n ps) (take n qs)
take-paired zero ps qs = refl
take-paired (suc n) [] qs = refl
take-paired (suc n) (p ∷ ps) [] = refl
take-paired (suc n) (p ∷ ps) (q ∷ qs) = rw (take-paired n ps qs)

run_of_front : (from k n : ℕ) (ls : List PriceLevel) → from + k ≤ n → take k (drop from (take n ls)) ≡ take k (drop from ls)
run_of_front zero k n ls h = take-take k n ls (omega arith)
run_of_front (suc from) k zero ls h = absurd (omega arith)
run_of_front (suc from) k (suc n) [] h = refl
run_of_front (suc from) k (suc n) (l ∷ ls) h = run_of_front from k n ls (omega arith)

pub side-run :
    (t : Levels) → Sized t → t.count ≤ max_levels → (from k : ℕ) → from + k ≤ t.count →
    take k (drop from (every_place t.prices t.quantities)) ≡ take k (drop from (levels t))
side-run t w few from k h =
    let p : take max_levels t.prices ≡ t.prices = take_all max_levels t.prices (omega (arith, w.ps)) in
    let q : take max_levels t.quantities ≡ t.quantities = take_all max_levels t.quantities (omega (arith, w.qs)) in
    rw (p, q) (sym (run_of_front from k t.count (paired t.prices t.quantities) h) ∙ rw (take-paired t.count t.prices t.quantities))
