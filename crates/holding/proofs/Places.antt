-- Laws of positions that stand in rows.
use Prim.Native.Nat.{ℕ, ◌<◌}
use mathlib.Core.Path.{◌≡◌, subst, sym, ◌∙◌}
use mathlib.Core.Bool.{true, and-eq-true_iff}
use mathlib.Core.List.{List}
use borrow.Author.Tests.{eqb-true, eqb-false}
use lib.Dec.{eqb}
use lib.ListN.{length, set, length-set}
use lib.Seq.{get_or-set_same, get_or-set_other}
use lib.IntN.{ℤ}
use Rattle.amount.proofs.Sums.{all-at, all_each}
use Rattle.types.proofs.Booleans.{by}
use Rattle.holding.specs.declared.Position.{Position}
use Rattle.holding.specs.Holding.{is_position}
use Rattle.holding.specs.Inner.Sizes.{PositionIn}
use Rattle.holding.proofs.Holdings.{position_in}
use Rattle.holding.specs.Rows.{position_of, is_position_of, is_row, are_positions}

module _ (qs : List ℤ) (ms : List ℕ) (rs : List ℤ) where
  -- what rows of positions have
  pub record RowsIn : Type 0 where
    pub quantities_long : length qs ≡ 32
    pub averages_long : length ms ≡ 32
    pub realized_long : length rs ≡ 32
    pub each : (i : ℕ) → i < 32 → is_position (position_of qs ms rs i) ≡ true

  pub rows_in_lem : are_positions qs ms rs ≡ true → RowsIn
  unfolding are_positions
  rows_in_lem h =
      let a = (and-eq-true_iff (is_row qs) _).0 h in
      let b = (and-eq-true_iff (is_row ms) _).0 a.1 in
      let c = (and-eq-true_iff (is_row rs) _).0 b.1 in
      record {
        quantities_long = eqb-true _ _ a.0;
        averages_long = eqb-true _ _ b.0;
        realized_long = eqb-true _ _ c.0;
        each = λ i m. all-at (is_position_of qs ms rs) 32 i m c.1;
      }

  -- and what has it, is rows of positions
  pub rows_of : RowsIn → are_positions qs ms rs ≡ true
  unfolding are_positions
  rows_of w = rw (w.quantities_long, w.averages_long, w.realized_long) (all_each (is_position_of qs ms rs) 32 w.each)

pub held_in_lem : (qs : List ℤ) (ms : List ℕ) (rs : List ℤ) → are_positions qs ms rs ≡ true → (i : ℕ) → i < 32 → PositionIn (position_of qs ms rs i)
held_in_lem qs ms rs h i m = position_in (position_of qs ms rs i) ((rows_in_lem qs ms rs h).each i m)

module _ (qs : List ℤ) (ms : List ℕ) (rs : List ℤ) (w : RowsIn qs ms rs) (s : ℕ) (m : s < 32) (p : Position) where
  -- a position that is put in a symbol's places stands there
  pub put_here : position_of (set qs s p.quantity.value) (set ms s p.average) (set rs s p.realized.value) s ≡ p
  put_here =
      rw (
        get_or-set_same qs s p.quantity.value _ (subst (λ (k : ℕ). s < k) (sym w.quantities_long) m),
        get_or-set_same ms s p.average 0 (subst (λ (k : ℕ). s < k) (sym w.averages_long) m),
        get_or-set_same rs s p.realized.value _ (subst (λ (k : ℕ). s < k) (sym w.realized_long) m),
      )

  -- and the other symbols' positions stay
  pub put_elsewhere : (i : ℕ) → (i ≡ s → ⊥) → position_of (set qs s p.quantity.value) (set ms s p.average) (set rs s p.realized.value) i ≡ position_of qs ms rs i
  put_elsewhere i other =
      rw (
        get_or-set_other qs s i p.quantity.value _ other,
        get_or-set_other ms s i p.average 0 other,
        get_or-set_other rs s i p.realized.value _ other,
      )

  -- within its limits, it leaves rows of positions
  pub put-fits : is_position p ≡ true → RowsIn (set qs s p.quantity.value) (set ms s p.average) (set rs s p.realized.value)
  put-fits h =
      record {
        quantities_long = length-set qs s p.quantity.value ∙ w.quantities_long;
        averages_long = length-set ms s p.average ∙ w.averages_long;
        realized_long = length-set rs s p.realized.value ∙ w.realized_long;
        each = λ i n. by (eqb i s) (λ e. rw (eqb-true i s e, put_here) h) (λ e. rw (put_elsewhere i (eqb-false i s e)) (w.each i n));
      }
