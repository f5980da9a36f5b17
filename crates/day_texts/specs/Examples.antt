-- Texts, and what they say.
use Rattle.std.specs.Prelude.{ℕ, ◌≡◌, refl, List, [], ◌∷◌, ℤ, pos, neg_ℤ}
use Rattle.amount.specs.Whole.{amount}
use Rattle.types.specs.Bytes.{bytes}
use Rattle.types.specs.declared.Side.{Side}
use Rattle.types.specs.declared.Side.TheVariants.{Bid, Ask}
use Rattle.holding.specs.declared.Fill.{Fill}
use Rattle.numerals.specs.Numerals.{digits_on}
use Rattle.day_lines.specs.Words.{spoken, parts, not_empty}
use Rattle.day_lines.specs.Lines.{said_by}
use Rattle.day_texts.specs.Texts.{lines_of, Read, unopened, day, no_day, read_on, day_read}

-- a fill
abbrev fill : ℕ → Side → ℕ → ℕ → ℤ → Fill
fill symbol side quantity price commission =
    record { symbol = symbol; side = side; quantity = quantity; price = price; commission = amount commission }

-- a day of this cash, said in line n
abbrev of : ℤ → ℕ → List Fill → List ℕ → Read
of cash n fills lines = day (record { cash = amount cash; opened = n; fills = fills; lines = lines })

-- a remark, the cash, an empty line and two fills, the last without a line feed
two-fills :
    day_read (bytes "#a\ncash 9\n\n0 bid 1 2 3\n1 ask 4 5 -6") ≡
    of (pos 9) 2 (fill 0 Bid 1 2 (pos 3) ∷ fill 1 Ask 4 5 (neg_ℤ (pos 6)) ∷ []) (4 ∷ 5 ∷ [])
unfolding lines_of read_on spoken parts not_empty digits_on said_by
two-fills = refl

-- no byte; lines that say nothing; the cash alone, and with an empty line behind it
no_fills :
    (day_read [] ≡ unopened)
    × (day_read (bytes "\n#a\n \n") ≡ unopened)
    × (day_read (bytes "cash 5\n") ≡ of (pos 5) 1 [] [])
    × (day_read (bytes "cash 5\n\n") ≡ of (pos 5) 1 [] [])
unfolding lines_of read_on spoken parts not_empty digits_on said_by
no_fills = (refl, refl, refl, refl)

-- a fill before the cash, the cash twice, a line that says something else behind the cash, and before it
none-of-a-day :
    (day_read (bytes "0 bid 1 2 3\ncash 5\n") ≡ no_day)
    × (day_read (bytes "cash 5\ncash 5\n") ≡ no_day)
    × (day_read (bytes "cash 5\nx\n0 bid 1 2 3\n") ≡ no_day)
    × (day_read (bytes "x\ncash 5") ≡ no_day)
unfolding lines_of read_on spoken parts not_empty digits_on said_by
none-of-a-day = (refl, refl, refl, refl)
