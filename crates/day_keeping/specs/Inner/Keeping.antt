-- What is kept of the lines of a day: its opening cash, and its fills as numbers with their lines.
use Rattle.std.specs.Prelude.{ℕ, ◌+◌, ◌*◌, Bool, true, false, cond, List, ltb, ℤ, set, Some}
use Rattle.std.specs.Option.{is_some}
use Rattle.std.proofs.lemmas.List.Edits.{sets}
use Rattle.amount.specs.declared.Amount.{Amount}
use Rattle.holding.specs.declared.Fill.{Fill}
use Rattle.day.specs.Numbers.{fill_numbers}
use Rattle.day_lines.specs.Lines.{max_fills, said}
use Rattle.day_lines.specs.declared.Said.{Said}
use Rattle.day_lines.specs.declared.Said.TheVariants as L
use Rattle.day_keeping.specs.declared.Collected.{Collected}
use Rattle.day_keeping.specs.declared.fills.Fills.{Fills}
use Rattle.day_keeping.specs.declared.Reading.{Reading}
use Rattle.day_keeping.specs.declared.Reading.TheVariants.{Going, Ended, Failed}

-- what was read so far, how many fills are kept, their numbers, and their lines
pub record Kept : Type 0 where
  pub day : Collected
  pub fills : ℕ
  pub numbers : List ℤ
  pub lines : List ℕ

-- a day with its fills
abbrev pub kept : Collected → Fills → Kept
kept d f = record { day = d; fills = f.count; numbers = f.numbers; lines = f.lines }

-- more is to be read
abbrev pub is_going : Reading → Bool
is_going Going = true
is_going Ended = false
is_going Failed = false

-- nothing went wrong
abbrev pub is_good : Reading → Bool
is_good Going = true
is_good Ended = true
is_good Failed = false

-- nothing more is to be read
abbrev pub ended : Reading → Reading
ended Going = Ended
ended Ended = Ended
ended Failed = Failed

-- the text has ended: nothing more is read, and what went wrong stays so
abbrev pub finished : Collected → Collected
finished d = record { line = d.line; opening = d.opening; reading = ended d.reading }

-- ── a line ──

-- it is none that a day may have there: nothing more is read
abbrev pub spoilt : Collected → Collected
spoilt d = record { line = d.line; opening = d.opening; reading = Failed }

-- the opening cash, of which there is one
abbrev pub cash_taken : Amount → Collected → Collected
cash_taken cash d =
    cond (is_some d.opening)
    (spoilt d)
    (record { line = d.line; opening = Some (record { line = d.line; cash = cash }); reading = d.reading })

-- the same of another day, its fills as they are
abbrev pub with : Kept → Collected → Kept
with k d = record { day = d; fills = k.fills; numbers = k.numbers; lines = k.lines }

-- a fill and its line behind those that are kept, while there is room
abbrev pub fill_kept : Fill → Kept → Kept
fill_kept f k =
    cond (ltb k.fills max_fills)
    (record {
      day = k.day;
      fills = k.fills + 1;
      numbers = sets k.numbers (5 * k.fills) (fill_numbers f);
      lines = set k.lines k.fills k.day.line;
    })
    (with k (spoilt k.day))

-- what a line says: nothing, the opening cash first, then fills
abbrev pub line_taken : Said → Kept → Kept
line_taken L.Nothing k = k
line_taken (L.Cash cash) k = with k (cash_taken cash k.day)
line_taken (L.Fill f) k = cond (is_some k.day.opening) (fill_kept f k) (with k (spoilt k.day))
line_taken L.Other k = with k (spoilt k.day)

-- the next line begins; lines behind that of the largest u64 have its number too
abbrev pub next_line : Collected → Collected
next_line d = record { line = cond (ltb d.line 18446744073709551615) (d.line + 1) d.line; opening = d.opening; reading = d.reading }

-- a line of these bytes has ended
abbrev pub line_ended : List ℕ → Kept → Kept
line_ended bytes k = let m = line_taken (said bytes) k in with m (next_line m.day)
