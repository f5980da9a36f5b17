-- One fill of a day: what is left of the day after one that was taken, and the day's end at one that was not.
use Rattle.std.proofs.Common.{◌≡◌, ℕ, ◌+◌, ◌<◌, true, List, [], ◌∷◌, length, get_or, drop, ℤ, sym, ap, ◌∙◌, add-one, drop-cons}
use Rattle.types.specs.Replies.{done, refused}
use Rattle.types.specs.Runs.{Run, counting, until_refused}
use Rattle.types.proofs.Runs.{counting_more, counting-ended}
use Rattle.holding.specs.declared.Fill.{Fill}
use Rattle.position.specs.declared.PositionLedger.{PositionLedger}
use Rattle.position.specs.Ledger.{Change, is_ledger, booked}
use Rattle.position.proofs.Kept.{fill_keeps}
use Rattle.day.specs.Day.{booked_in_order}

-- with no fills left, the day is over
pub is_over : (l : PositionLedger) (n : ℕ) (day : Run PositionLedger) → counting n (booked_in_order l []) ≡ day → record { stands = l; taken = n; reply = done tt } ≡ day
unfolding until_refused
is_over l n day e = sym (counting-ended n l (done tt)) ∙ e

-- at a place of a list, what is left begins with the fill there
pub begins : (fs : List Fill) (i : ℕ) (d : Fill) → i < length fs → (l : PositionLedger) (n : ℕ) (day : Run PositionLedger)
    → counting n (booked_in_order l (drop i fs)) ≡ day → counting n (booked_in_order l (get_or fs i d ∷ drop (i + 1) fs)) ≡ day
begins fs i d h l n day e = rw (add-one, ← drop-cons fs i d h) e

-- what a fill that is taken leaves is a ledger
pub leaves_ledger : (l : PositionLedger) (f : Fill) (c : Change) → c ≡ booked l f → c.reply ≡ done tt → is_ledger c.ledger ≡ true
leaves_ledger l f c h d = rw h ((fill_keeps l f).ledger (ap (λ (x : Change). x.reply) (sym h) ∙ d))

module _ (l : PositionLedger) (f : Fill) (fs : List Fill) (n : ℕ) (day : Run PositionLedger) (e : counting n (booked_in_order l (f ∷ fs)) ≡ day) (c : Change) (h : c ≡ booked l f) where
  -- a fill that is taken is counted, and the others follow from the ledger that it leaves
  pub goes_on : c.reply ≡ done tt → counting (n + 1) (booked_in_order c.ledger fs) ≡ day
  unfolding until_refused
  goes_on d =
      let b : (booked l f).reply ≡ done tt = ap (λ (x : Change). x.reply) (sym h) ∙ d in
      rw h (sym (counting_more n _) ∙ rw b at e)

  -- one that is refused ends the day, and leaves the ledger that it was offered to
  pub stops : (m : ℕ) (vs : List ℤ) → c.reply ≡ refused m vs → record { stands = c.ledger; taken = n; reply = c.reply } ≡ day
  unfolding until_refused
  stops m vs d =
      let b : (booked l f).reply ≡ refused m vs = ap (λ (x : Change). x.reply) (sym h) ∙ d in
      let s : c.ledger ≡ l = ap (λ (x : Change). x.ledger) h ∙ (fill_keeps l f).same m vs b in
      rw (s, d) (sym (counting-ended n l (refused m vs)) ∙ rw b at e)
