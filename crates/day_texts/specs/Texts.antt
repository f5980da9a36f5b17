-- What the text of a day says: first an opening cash, then fills, a line each.
use Rattle.std.specs.Prelude.{ℕ, ◌+◌, cond, List, [], ◌∷◌, ◌++◌, eqb, leb, ltb, length}
use Rattle.amount.specs.declared.Amount.{Amount}
use Rattle.holding.specs.declared.Fill.{Fill}
use Rattle.types.specs.Bytes.{onto}
use Rattle.day_lines.specs.Lines.{max_line, max_fills, said}
use Rattle.day_lines.specs.declared.Said.{Said}
use Rattle.day_lines.specs.declared.Said.TheVariants as L

-- the lines of a text, their line feeds left out: behind the last line feed there is one more, if there is a byte
unfoldable pub lines_of : List ℕ → List (List ℕ)
lines_of [] = []
lines_of (b ∷ bs) = cond (eqb b 10) ([] ∷ lines_of bs) (onto b (lines_of bs))

-- what a line says; one of too many bytes is none of a day
abbrev pub line_says : List ℕ → Said
line_says line = cond (leb (length line) max_line) (said line) L.Other

-- a day: its opening cash and the line of that, its fills and the line of each
pub record Day : Type 0 where
  pub cash : Amount
  pub opened : ℕ
  pub fills : List Fill
  pub lines : List ℕ

-- what lines say together: nothing yet, a day, or something else
pub data Read : Type 0 where
  unopened : Read
  day : Day → Read
  no_day : Read

-- a day with one fill more, if there may be one
abbrev pub with_fill : Day → ℕ → Fill → Read
with_fill d n f =
    cond (ltb (length d.fills) max_fills)
    (day (record { cash = d.cash; opened = d.opened; fills = d.fills ++ (f ∷ []); lines = d.lines ++ (n ∷ []) }))
    no_day

-- what lines say together, and then line n: the cash is said first, and once
abbrev pub and_line : Read → ℕ → Said → Read
and_line r n L.Nothing = r
and_line unopened n (L.Cash c) = day (record { cash = c; opened = n; fills = []; lines = [] })
and_line unopened n (L.Fill f) = no_day
and_line unopened n L.Other = no_day
and_line (day d) n (L.Cash c) = no_day
and_line (day d) n (L.Fill f) = with_fill d n f
and_line (day d) n L.Other = no_day
and_line no_day n (L.Cash c) = no_day
and_line no_day n (L.Fill f) = no_day
and_line no_day n L.Other = no_day

-- what lines say together, and then these, from line n on
unfoldable pub read_on : Read → ℕ → List (List ℕ) → Read
read_on r n [] = r
read_on r n (l ∷ ls) = read_on (and_line r n (line_says l)) (n + 1) ls

-- what a text says; its lines are counted from 1
abbrev pub day_read : List ℕ → Read
day_read text = read_on unopened 1 (lines_of text)
