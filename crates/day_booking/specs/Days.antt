-- What is printed of the text of a day.
use Rattle.std.specs.Prelude.{ℕ, cond, List, [], get_or}
use Rattle.types.specs.Runs.{Run}
use Rattle.told.specs.Numbers.{told, tell, nothing}
use Rattle.position.specs.declared.PositionLedger.{PositionLedger}
use Rattle.position.specs.Ledger.{is_money, fresh}
use Rattle.day.specs.Day.{day_booked}
use Rattle.day_printing.specs.Booked.{refused_text, day_text}
use Rattle.day_texts.specs.Texts.{Day, Read, unopened, day, no_day, day_read}

-- of a run of fills that stand in these lines: how many were taken, the refusal of the next and its line, and the ledger that stands
abbrev pub run_text : Run PositionLedger → List ℕ → List ℕ
run_text run lines = day_text run.taken (tell nothing run.reply) (get_or lines run.taken 0) run.stands

-- of a day: its fills are booked in one call to a new ledger of its cash; a cash outside its limit is refused with 2 and its line, alone
unfoldable pub day_printed : Day → List ℕ
day_printed d =
    cond (is_money d.cash.value)
    (run_text (day_booked (fresh d.cash.value) d.fills) d.lines)
    (refused_text (told 2 []) d.opened)

-- of what lines say together: of what is no day, nothing
abbrev pub read_printed : Read → List ℕ
read_printed unopened = []
read_printed (day d) = day_printed d
read_printed no_day = []

-- of a text
abbrev pub text_printed : List ℕ → List ℕ
text_printed text = read_printed (day_read text)
