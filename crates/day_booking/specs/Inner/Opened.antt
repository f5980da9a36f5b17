-- How what is printed of a text is put: of what is kept of the text.
use Rattle.std.specs.Prelude.{ℕ, cond, List, [], ℤ}
use Rattle.told.specs.Numbers.{told}
use Rattle.position.specs.Ledger.{is_money, fresh}
use Rattle.decimals.specs.Decimals.{Puts}
use Rattle.day.specs.Numbers.{day_booked_by}
use Rattle.day_printing.specs.Booked.{refused_text}
use Rattle.day_keeping.specs.Inner.Keeping.{Kept}
use Rattle.day_collecting.specs.Inner.Collecting.{KeptOf}
use Rattle.day_booking.specs.Days.{run_text, text_printed}

-- what is printed of an opening cash and its line, of the numbers of fills, five each, and of their lines
unfoldable pub opened_text : ℤ → ℕ → List ℤ → List ℕ → List ℕ
opened_text cash opened numbers lines = cond (is_money cash) (run_text (day_booked_by (fresh cash) numbers) lines) (refused_text (told 2 []) opened)

-- what is put is what is printed of the text that this is kept of
abbrev pub PutsKept : Kept → List ℕ → List ℕ → ℕ → Type 0
PutsKept k before after next = (text : List ℕ) → KeptOf text k → Puts (text_printed text) 0 before after next
