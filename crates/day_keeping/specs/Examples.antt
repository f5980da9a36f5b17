-- Lines taken: a cash and a fill in their places, and out of them.
use Rattle.std.specs.Prelude.{ℕ, ◌≡◌, refl, List, [], ◌∷◌, ℤ, pos, neg_ℤ, replicate, Option, Some, None}
use Rattle.amount.specs.Whole.{amount}
use Rattle.types.specs.declared.Side.TheVariants.{Ask}
use Rattle.holding.specs.declared.Fill.{Fill}
use Rattle.day_lines.specs.declared.Said.TheVariants as L
use Rattle.day_keeping.specs.declared.Opening.{Opening}
use Rattle.day_keeping.specs.declared.Reading.{Reading}
use Rattle.day_keeping.specs.declared.Reading.TheVariants.{Going, Failed}
use Rattle.day_keeping.specs.Inner.Keeping.{Kept, line_taken}

-- an opening in this line
abbrev in_line : ℕ → ℤ → Option Opening
in_line n cash = Some (record { line = n; cash = amount cash })

-- at line 7, with this opening and count of fills
abbrev at : Option Opening → ℕ → Reading → List ℤ → List ℕ → Kept
at opening fills reading numbers lines = record {
  day = record { line = 7; opening = opening; reading = reading };
  fills = fills;
  numbers = numbers;
  lines = lines;
}

-- room for two fills
abbrev blank : List ℤ
blank = replicate 10 (pos 0)

-- 3 of symbol 2 sold at 4, with a rebate of 5
abbrev sold : Fill
sold = record { symbol = 2; side = Ask; quantity = 3; price = 4; commission = amount (neg_ℤ (pos 5)) }

-- a fill goes behind the one that is kept, with its line
kept_second :
    line_taken (L.Fill sold) (at (in_line 1 (pos 9)) 1 Going blank (3 ∷ 0 ∷ [])) ≡
    at (in_line 1 (pos 9)) 2 Going (pos 0 ∷ pos 0 ∷ pos 0 ∷ pos 0 ∷ pos 0 ∷ pos 2 ∷ pos 1 ∷ pos 3 ∷ pos 4 ∷ neg_ℤ (pos 5) ∷ []) (3 ∷ 7 ∷ [])
kept_second = refl

-- the cash before all else, and once; a fill before it, and the fill behind the last that there is room for
in_place :
    (line_taken (L.Cash (amount (pos 8))) (at None 0 Going blank (0 ∷ 0 ∷ [])) ≡ at (in_line 7 (pos 8)) 0 Going blank (0 ∷ 0 ∷ []))
    × (line_taken (L.Cash (amount (pos 8))) (at (in_line 1 (pos 9)) 0 Going blank (0 ∷ 0 ∷ [])) ≡ at (in_line 1 (pos 9)) 0 Failed blank (0 ∷ 0 ∷ []))
    × (line_taken (L.Fill sold) (at None 0 Going blank (0 ∷ 0 ∷ [])) ≡ at None 0 Failed blank (0 ∷ 0 ∷ []))
    × (line_taken (L.Fill sold) (at (in_line 1 (pos 9)) 100000 Going blank (0 ∷ 0 ∷ [])) ≡ at (in_line 1 (pos 9)) 100000 Failed blank (0 ∷ 0 ∷ []))
in_place = (refl, refl, refl, refl)
