-- A text whose last line has no line feed, and one whose first line is none of a day.
use Rattle.std.specs.Prelude.{ℕ, ◌≡◌, refl, List, [], ℤ, pos, replicate, Option, Some, None}
use Rattle.amount.specs.Whole.{amount}
use Rattle.types.specs.Bytes.{bytes}
use Rattle.numerals.specs.Numerals.{digits_on}
use Rattle.day_lines.specs.Words.{spoken, parts, not_empty}
use Rattle.day_lines.specs.Lines.{said_by}
use Rattle.day_keeping.specs.declared.Opening.{Opening}
use Rattle.day_keeping.specs.declared.Reading.{Reading}
use Rattle.day_keeping.specs.declared.Reading.TheVariants.{Going, Ended, Failed}
use Rattle.day_keeping.specs.Inner.Keeping.{Kept}
use Rattle.day_collecting.specs.Inner.Collecting.{text_taken}

-- a day with this line to read, opening and number of fills
abbrev at : ℕ → Option Opening → ℕ → Reading → List ℤ → List ℕ → Kept
at line opening fills reading numbers lines = record {
  day = record { line = line; opening = opening; reading = reading };
  fills = fills;
  numbers = numbers;
  lines = lines;
}

-- nothing read yet, with room for two fills
abbrev start : Kept
start = at 1 None 0 Going (replicate 10 (pos 0)) (replicate 2 0)

-- an empty line, then `cash 5` without its line feed: the cash of line 2
last : text_taken start [] (bytes "\ncash 5") ≡ at 3 (Some (record { line = 2; cash = amount (pos 5) })) 0 Ended (replicate 10 (pos 0)) (replicate 2 0)
unfolding text_taken spoken parts not_empty digits_on said_by
last = refl

-- `x`, then a line that is not read: nothing is kept
spoilt : text_taken start [] (bytes "x\ncash 5") ≡ at 2 None 0 Failed (replicate 10 (pos 0)) (replicate 2 0)
unfolding text_taken spoken parts not_empty digits_on said_by
spoilt = refl
