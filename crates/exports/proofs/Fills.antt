-- One fill by its numbers and a list of that one are booked alike (specs/Ledgers.antt).
use Prim.Native.Nat.{ℕ, zero, suc, ◌≤◌}
use mathlib.Core.Bool.{true, false, and-false}
use mathlib.Core.Path.{◌≡◌, refl, sym, ◌∙◌}
use mathlib.Core.List.{[], ◌∷◌}
use native.Mathlib.Omega.{arith}
use borrow.Author.Tests.{leb-true}
use lib.Dec.{leb}
use lib.IntN.{ℤ, pos}
use Rattle.types.specs.Named.{side_named, side_number}
use Rattle.types.proofs.Booleans.{by}
use Rattle.holding.specs.declared.Fill.{Fill}
use Rattle.position.specs.declared.PositionLedger.{PositionLedger}
use Rattle.position.specs.Ledger.{is_ledger, booked}
use Rattle.day.specs.Day.{day_booked}
use Rattle.day.specs.Numbers.{is_up_to, max_word, no_fill, fill_by, first_fills, day_booked_by}
use Rattle.day.proofs.Meaning.{one-fill}
use Rattle.day.proofs.Back.{booked-again, none_outside}
use Rattle.exports.specs.Ledgers.{fill_of, booked_by, OneAlike}

-- the number of the side that a number names
named_back : (side : ℕ) → side ≤ 1 → side_number (side_named side) ≡ side
named_back zero h = refl
named_back (suc zero) h = refl
named_back (suc (suc n)) h = absurd (omega arith)

module _ (symbol side quantity price : ℕ) (commission : ℤ) where
  -- the fill of these numbers
  abbrev fill : Fill
  fill = fill_by (pos symbol) (pos side) (pos quantity) (pos price) commission

  -- a number that names no side makes none
  none_named : leb side 1 ≡ false → fill ≡ no_fill
  unfolding fill_by
  none_named t = by (is_up_to max_word (pos symbol)) (λ s. rw (s, t, and-false)) (λ s. rw s)

  module _ (l : PositionLedger) where
    -- it is booked as in a list
    same-fill : booked_by l symbol side quantity price commission ≡ booked l fill
    unfolding booked_by booked
    same-fill =
        by (leb side 1)
        (λ t. rw t (sym (rw (named_back side (leb-true side 1 t)) at (booked-again l (fill_of symbol side quantity price commission)))))
        (λ t. rw (t, none_named t) (by (is_ledger l) (λ h. rw (h, none_outside)) (λ h. rw h)))

    same_list : day_booked_by l (pos symbol ∷ pos side ∷ pos quantity ∷ pos price ∷ commission ∷ []) ≡ day_booked l (fill ∷ [])
    unfolding day_booked_by day_booked first_fills
    same_list = by (is_ledger l) (λ h. rw h) (λ h. rw h)

pub one_alike : OneAlike
one_alike l symbol side quantity price commission =
    same_list symbol side quantity price commission l ∙ one-fill l (fill symbol side quantity price commission) ∙
    rw (same-fill symbol side quantity price commission l)
