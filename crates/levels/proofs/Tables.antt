-- A table and its list of levels: what a well-formed table has, and how each is found again from the other.
use Prim.Native.Nat.{ℕ, zero, suc, ◌+◌, ◌≤◌, ◌<◌}
use native.Mathlib.Omega.{arith}
use mathlib.Core.Path.{◌≡◌, refl, ap, sym, ◌∙◌}
use mathlib.Core.Bool.{Bool, true, false, ◌&&◌, and-eq-true_iff, and-true, and-false}
use mathlib.Core.List.{List, [], ◌∷◌}
use lib.ListN.{length, take, drop, get_or, length-map, length-take}
use lib.Seq.{length-take-le}
use lib.Dec.{leb, leb-zero}
use borrow.Author.Tests.{leb-true, le-leb, lt-leb}
use Rattle.types.specs.Limits.{within, is_price, is_quantity, max_levels, max_price, max_quantity}
use Rattle.types.specs.declared.Side.{Side}
use Rattle.types.specs.declared.PriceLevel.{PriceLevel}
use Rattle.levels.specs.Order.{in_order}
use Rattle.levels.specs.Formed.{every, in_limits, zeros, well_formed}
use Rattle.levels.specs.Table.{level, prices_of, quantities_of, paired, levels, table, rows}
use Rattle.levels.specs.declared.Levels.{Levels}
use Rattle.types.proofs.Booleans.{by}
use Rattle.levels.proofs.Ends.{whole_row}
use Rattle.levels.proofs.Rows.{run_cons, run_end}
use Rattle.levels.proofs.Pads.{padded_front, padded-behind, padded-length, padded-back, padded-first}

-- both rows have 128 places
pub record Sized (t : Levels) : Type 0 where
  pub ps : length t.prices ≡ max_levels
  pub qs : length t.quantities ≡ max_levels

-- what `well_formed` says
pub record Formed (s : Side) (t : Levels) : Type 0 where
  pub few : t.count ≤ max_levels
  pub order : in_order s (prices_of (levels t)) ≡ true
  pub limits : every in_limits (levels t) ≡ true
  pub no_price : zeros (drop t.count t.prices) ≡ true
  pub no_quantity : zeros (drop t.count t.quantities) ≡ true

module _ (s : Side) (t : Levels) where
  pub formed : well_formed s t ≡ true → Formed s t
  unfolding well_formed
  formed h =
      let a = (and-eq-true_iff (leb t.count max_levels) _).0 h in
      let b = (and-eq-true_iff (in_order s (prices_of (levels t))) _).0 a.1 in
      let c = (and-eq-true_iff (every in_limits (levels t)) _).0 b.1 in
      let d = (and-eq-true_iff (zeros (drop t.count t.prices)) _).0 c.1 in
      record { few = leb-true t.count max_levels a.0; order = b.0; limits = c.0; no_price = d.0; no_quantity = d.1 }

  -- and back
  pub well_formed_lem : Formed s t → well_formed s t ≡ true
  unfolding well_formed
  well_formed_lem f = rw (le-leb _ _ f.few, f.order, f.limits, f.no_price, f.no_quantity)

-- a table with a count above 128 is not well formed
pub too_many : (s : Side) (t : Levels) → max_levels < t.count → well_formed s t ≡ false
unfolding well_formed
too_many s t h = rw (lt-leb _ _ h)

-- two rows of one length, pair by pair
paired-prices : (ps qs : List ℕ) → length ps ≡ length qs → prices_of (paired ps qs) ≡ ps
paired-prices [] qs e = refl
paired-prices (p ∷ ps) [] e = absurd (omega arith)
paired-prices (p ∷ ps) (q ∷ qs) e = rw (paired-prices ps qs (omega arith))

paired_quantities : (ps qs : List ℕ) → length ps ≡ length qs → quantities_of (paired ps qs) ≡ qs
paired_quantities [] [] e = refl
paired_quantities [] (q ∷ qs) e = absurd (omega arith)
paired_quantities (p ∷ ps) [] e = absurd (omega arith)
paired_quantities (p ∷ ps) (q ∷ qs) e = rw (paired_quantities ps qs (omega arith))

drop-paired : (i : ℕ) (ps qs : List ℕ) → length ps ≡ length qs → drop i (paired ps qs) ≡ paired (drop i ps) (drop i qs)
drop-paired zero ps qs e = refl
drop-paired (suc i) [] qs e = refl
drop-paired (suc i) (p ∷ ps) [] e = absurd (omega arith)
drop-paired (suc i) (p ∷ ps) (q ∷ qs) e = drop-paired i ps qs (omega arith)

crossed : (a b c d : Bool) → (a && b) && (c && d) ≡ (a && c) && (b && d)
crossed true true c d = refl
crossed true false c d = sym (and-false c)
crossed false b c d = refl

regrouped : (a b c d e : Bool) → a && ((b && c) && (d && e)) ≡ (a && b) && ((d && e) && c)
regrouped true true true d e = sym (and-true (d && e))
regrouped true true false d e = sym (and-false (d && e))
regrouped true false c d e = refl
regrouped false b c d e = refl

paired_limits : (ps qs : List ℕ) → length ps ≡ length qs → every in_limits (paired ps qs) ≡ every (within 1 max_price) ps && every (within 0 max_quantity) qs
unfolding every
paired_limits [] [] e = refl
paired_limits [] (q ∷ qs) e = absurd (omega arith)
paired_limits (p ∷ ps) [] e = absurd (omega arith)
paired_limits (p ∷ ps) (q ∷ qs) e = rw (paired_limits ps qs (omega arith), leb-zero) (crossed (is_price p) (is_quantity q) (every (within 1 max_price) ps) (every (within 0 max_quantity) qs))

paired-back : (ls : List PriceLevel) → paired (prices_of ls) (quantities_of ls) ≡ ls
paired-back [] = refl
paired-back (l ∷ ls) = rw (paired-back ls)

paired_few : (ps qs : List ℕ) → length (paired ps qs) ≤ length ps
paired_few [] qs = omega arith
paired_few (p ∷ ps) [] = omega arith
paired_few (p ∷ ps) (q ∷ qs) = let h = paired_few ps qs in omega arith

-- there are no more levels than the count says
pub levels_few : (t : Levels) → length (levels t) ≤ t.count
levels_few t = let h = paired_few (take t.count t.prices) (take t.count t.quantities) in omega (arith, length-take t.count t.prices)

module _ (t : Levels) (w : Sized t) (n : t.count ≤ max_levels) where
  even : length (take t.count t.prices) ≡ length (take t.count t.quantities)
  even = rw (length-take-le t.count t.prices (omega arith), length-take-le t.count t.quantities (omega arith))

  -- the levels' prices and quantities are the used places of the rows, and the count is their number
  pub levels-prices : prices_of (levels t) ≡ take t.count t.prices
  levels-prices = paired-prices (take t.count t.prices) (take t.count t.quantities) even

  pub levels_quantities : quantities_of (levels t) ≡ take t.count t.quantities
  levels_quantities = paired_quantities (take t.count t.prices) (take t.count t.quantities) even

  pub levels-length : length (levels t) ≡ t.count
  levels-length = sym (length-map (levels t) (λ l. l.price)) ∙ ap length levels-prices ∙ length-take-le t.count t.prices (omega arith)

  -- the level at a place, and the end: what a loop over the levels goes by
  pub levels_cons : (i : ℕ) → i < t.count → drop i (levels t) ≡ level (get_or t.prices i 0) (get_or t.quantities i 0) ∷ drop (i + 1) (levels t)
  levels_cons i h = rw (drop-paired i _ _ even, drop-paired (i + 1) _ _ even, run_cons t.prices t.count (omega arith) i h, run_cons t.quantities t.count (omega arith) i h)

  pub levels_end : (i : ℕ) → t.count ≤ i → drop i (levels t) ≡ []
  levels_end i h = rw (drop-paired i _ _ even, run_end t.prices t.count (omega arith) i h)

  -- well-formedness, one row after the other
  pub by_rows :
      (s : Side) →
      well_formed s t ≡
      (in_order s (take t.count t.prices) && every (within 1 max_price) (take t.count t.prices)) &&
      ((zeros (drop t.count t.prices) && zeros (drop t.count t.quantities)) && every (within 0 max_quantity) (take t.count t.quantities))
  unfolding well_formed
  by_rows s = rw (le-leb _ _ n, levels-prices, paired_limits _ _ even) (regrouped (in_order s (take t.count t.prices)) _ _ (zeros (drop t.count t.prices)) _)

-- of two rows of 128 places, so that what stands behind the count is tested first, and then the whole row of quantities may be
pub formed_rows :
    (s : Side) (ps qs : List ℕ) (n : ℕ) → length ps ≡ max_levels → length qs ≡ max_levels → n ≤ max_levels →
    well_formed s (rows ps qs n) ≡
    (in_order s (take n ps) && every (within 1 max_price) (take n ps)) && ((zeros (drop n ps) && zeros (drop n qs)) && every (within 0 max_quantity) qs)
formed_rows s ps qs n p q h =
    let e = by_rows (rows ps qs n) (record { ps = p; qs = q }) h s in
    by (zeros (drop n qs))
    (λ z. rw (whole_row max_quantity n qs z) e)
    (λ z. rw (z, and-false) (rw (z, and-false) at e))

module _ (s : Side) (t : Levels) (w : Sized t) (f : Formed s t) where
  -- a table by the rules is made of its levels again
  pub table-back : table (levels t) ≡ t
  table-back =
      let p = padded-back t.prices t.count w.ps f.few f.no_price in
      let q = padded-back t.quantities t.count w.qs f.few f.no_quantity in
      rw (levels-prices t w f.few, levels_quantities t w f.few, levels-length t w f.few, p, q)

  -- the first price stands at the first place, 0 for none
  pub first_row : get_or t.prices 0 0 ≡ get_or (prices_of (levels t)) 0 0
  first_row = ap (λ (u : Levels). get_or u.prices 0 0) (sym table-back) ∙ padded-first (prices_of (levels t))

-- a list is read again from its table
pub levels-back : (ls : List PriceLevel) → levels (table ls) ≡ ls
levels-back ls = rw (padded_front (λ l. l.price) ls, padded_front (λ l. l.quantity) ls) (paired-back ls)

-- the table of at most 128 levels has rows of 128 places, and is well formed if they are in order and limits
module _ (ls : List PriceLevel) (few : length ls ≤ max_levels) where
  pub table_sized : Sized (table ls)
  table_sized = record { ps = padded-length (λ l. l.price) ls few; qs = padded-length (λ l. l.quantity) ls few }

  pub table_formed : (s : Side) → in_order s (prices_of ls) ≡ true → every in_limits ls ≡ true → well_formed s (table ls) ≡ true
  table_formed s o l =
      let back = levels-back ls in
      well_formed_lem s (table ls) (record { few = few; order = rw back o; limits = rw back l; no_price = padded-behind (λ m. m.price) ls; no_quantity = padded-behind (λ m. m.quantity) ls })
