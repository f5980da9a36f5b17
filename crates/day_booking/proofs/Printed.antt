-- Laws of what is printed of a day: a run as it was given back, an opening that was refused or not, and a day that is kept of a text.
use Prim.Native.Nat.{ℕ, ◌*◌, ◌%◌, ◌≤◌}
use mathlib.Core.Bool.{true}
use mathlib.Core.Path.{◌≡◌, refl, sym, ◌∙◌}
use mathlib.Core.List.{List, []}
use native.Mathlib.Omega.{arith}
use borrow.Author.Tests.{eq-eqb}
use lib.Dec.{eqb}
use lib.IntN.{ℤ}
use lib.ListN.{length, take}
use lib.Seq.{length-take-le, get_or-take}
use Rattle.types.specs.Replies.{Reply, done, refused}
use Rattle.types.proofs.Booleans.{by}
use Rattle.types.proofs.Once.{never}
use Rattle.told.specs.Numbers.{told}
use Rattle.position.specs.declared.PositionLedger.{PositionLedger}
use Rattle.position.specs.Ledger.{Change, is_ledger, is_money, fresh, created}
use Rattle.position.proofs.Kept.{new_is_ledger}
use Rattle.holding.specs.declared.Fill.{Fill}
use Rattle.decimals.specs.Decimals.{Puts}
use Rattle.day.specs.Day.{day_booked}
use Rattle.day.specs.Numbers.{no_fill, fills_by, day_booked_by}
use Rattle.day.proofs.Meaning.{first_refused}
use Rattle.day_printing.specs.Booked.{refused_text, day_text}
use Rattle.day_keeping.specs.declared.Collected.{Collected}
use Rattle.day_keeping.specs.declared.Opening.{Opening}
use Rattle.day_keeping.specs.declared.fills.Fills.{Fills}
use Rattle.std.specs.Prelude.{Some}
use Rattle.day_keeping.specs.Inner.Keeping.{is_good, kept}
use Rattle.day_collecting.specs.Inner.Collecting.{KeptOf}
use Rattle.day_texts.specs.Texts.{day, day_read}
use Rattle.day_texts.specs.Kept.{day_kept}
use Rattle.day_texts.proofs.Numbers.{kept-count}
use Rattle.day_texts.proofs.Texts.{kept_as_said}
use Rattle.day_booking.specs.Days.{run_text, day_printed, text_printed}
use Rattle.day_booking.specs.Inner.Opened.{opened_text}

module _ (x : Change) (cash : ℤ) (e : x ≡ created cash) (opened : ℕ) (numbers : List ℤ) (lines : List ℕ) where
  -- a ledger that was made has this cash
  pub opening_done : x.reply ≡ done tt → run_text (day_booked_by x.ledger numbers) lines ≡ opened_text cash opened numbers lines
  unfolding created opened_text
  opening_done d = by (is_money cash) (λ t. rw (e, t)) (λ t. never x.reply 2 [] d (rw (e, t)))

  -- and one that was not is refused with 2
  pub opening_refused : (n : ℕ) (vs : List ℤ) → x.reply ≡ refused n vs → refused_text (told n vs) opened ≡ opened_text cash opened numbers lines
  unfolding created opened_text
  opening_refused n vs r =
      by (is_money cash)
      (λ t. never x.reply n vs (rw (e, t)) r)
      (λ t.
      let f : refused n vs ≡ refused 2 [] = sym r ∙ rw (e, t) in
      let number : n ≡ 2 = cc in
      let values : vs ≡ [] = cc in
      rw (t, number, values))

-- ── a day that is kept ──

-- a new ledger of a cash within its limit
fresh_ledger : (cash : ℤ) → is_money cash ≡ true → is_ledger (fresh cash) ≡ true
unfolding created
fresh_ledger cash t = rw t at (new_is_ledger cash)

-- the line of the refused fill is among those of the fills
run-lines : (l : PositionLedger) (fs : List Fill) (lines : List ℕ) → is_ledger l ≡ true → run_text (day_booked l fs) lines ≡ run_text (day_booked l fs) (take (length fs) lines)
unfolding day_text refused_text
run-lines l fs lines h = go (day_booked l fs).reply refl
  where
    go : (a : Reply (Unit {0})) → (day_booked l fs).reply ≡ a → run_text (day_booked l fs) lines ≡ run_text (day_booked l fs) (take (length fs) lines)
    go (done u) e = rw e
    go (refused n vs) e = rw (get_or-take (length fs) lines (day_booked l fs).taken 0 (first_refused l fs no_fill n vs h e).is_there)

-- the numbers that are kept are those of the fills, and the first lines theirs
pub kept-printed :
    (d : Collected) (opening : Opening) (f : Fills) → 5 * f.count ≤ length f.numbers →
    opened_text opening.cash.value opening.line (take (5 * f.count) f.numbers) f.lines ≡ day_printed (day_kept (kept d f) opening)
unfolding opened_text day_printed day_booked_by
kept-printed d opening f h =
    let ns = take (5 * f.count) f.numbers in
    let n : length ns ≡ 5 * f.count = length-take-le (5 * f.count) f.numbers h in
    let m : eqb (length ns % 5) 0 ≡ true = eq-eqb (length ns % 5) 0 (omega arith) in
    by (is_money opening.cash.value)
    (λ t.
    let l = fresh_ledger opening.cash.value t in
    rw (t, l, m) (run-lines (fresh opening.cash.value) (fills_by ns) f.lines l ∙ rw (kept-count f.numbers f.count h)))
    (λ t. rw t)

-- so what is put of them is what is printed of the text
pub text-put :
    (text : List ℕ) (d : Collected) (opening : Opening) (f : Fills) (o p : List ℕ) (u : ℕ) → KeptOf text (kept d f) → is_good d.reading ≡ true → d.opening ≡ Some opening → 5 * f.count ≤ length f.numbers →
    Puts (opened_text opening.cash.value opening.line (take (5 * f.count) f.numbers) f.lines) 0 o p u → Puts (text_printed text) 0 o p u
text-put text d opening f o p u k g e h w =
    let same : day (day_kept (kept d f) opening) ≡ day_read text = rw (g, e) at (kept_as_said text (kept d f) k) in
    rw (← same, ← kept-printed d opening f h) w
