-- That what the program keeps of a text is what the text says. Proved in proofs/Texts.antt.
use Rattle.std.specs.Prelude.{ℕ, ◌*◌, cond, ◌≡◌, List, take, Option, Some, None}
use Rattle.day.specs.Numbers.{fills_by}
use Rattle.day_keeping.specs.declared.Opening.{Opening}
use Rattle.day_keeping.specs.Inner.Keeping.{is_good, Kept}
use Rattle.day_collecting.specs.Inner.Collecting.{KeptOf}
use Rattle.day_texts.specs.Texts.{Day, Read, unopened, day, no_day, day_read}

-- the day that is kept, with this opening
abbrev pub day_kept : Kept → Opening → Day
day_kept k o = record {
  cash = o.cash;
  opened = o.line;
  fills = fills_by (take (5 * k.fills) k.numbers);
  lines = take k.fills k.lines;
}

-- the same, if there is an opening
abbrev pub if_opened : Kept → Option Opening → Read
if_opened k None = unopened
if_opened k (Some o) = day (day_kept k o)

-- what is kept, as what lines say together
abbrev pub read_kept : Kept → Read
read_kept k = cond (is_good k.day.reading) (if_opened k k.day.opening) no_day

-- What is kept of a text is what the text says.
abbrev pub KeptAsSaid : Type 0
KeptAsSaid = (text : List ℕ) (k : Kept) → KeptOf text k → read_kept k ≡ day_read text
