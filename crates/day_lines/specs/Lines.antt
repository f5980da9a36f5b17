-- What a line of a day says. `cash N` is the opening cash; `SYMBOL bid|ask QUANTITY PRICE COMMISSION` is a fill.
use Rattle.std.specs.Prelude.{ℕ, cond, List, [], ◌∷◌, Option, Some, None}
use Rattle.amount.specs.declared.Amount.{Amount}
use Rattle.holding.specs.declared.Fill.{Fill}
use Rattle.types.specs.Bytes.{bytes}
use Rattle.types.specs.declared.Side.{Side}
use Rattle.types.specs.declared.Side.TheVariants.{Bid, Ask}
use Rattle.day_lines.specs.Words.{spoken, words, alike}
use Rattle.numerals.specs.Numerals.{numeral_up_to, signed_of}
use Rattle.day_lines.specs.declared.Said.{Said}
use Rattle.day_lines.specs.declared.Said.TheVariants as L

-- the most bytes of a line
abbrev pub max_line : ℕ
max_line = 4096

-- the most fills of a day
abbrev pub max_fills : ℕ
max_fills = 100000

-- `cash`
abbrev pub cash : List ℕ
cash = bytes "cash"

-- `bid`
abbrev pub bid : List ℕ
bid = bytes "bid"

-- `ask`
abbrev pub ask : List ℕ
ask = bytes "ask"

-- a word as a side
abbrev pub side_word : List ℕ → Option Side
side_word w = cond (alike w bid) (Some Bid) (cond (alike w ask) (Some Ask) None)

-- what follows from a number; a word that is none makes the line none of a day
abbrev pub if_number : Option ℕ → (ℕ → Said) → Said
if_number (Some n) f = f n
if_number None f = L.Other

-- the same from a side
abbrev pub if_sided : Option Side → (Side → Said) → Said
if_sided (Some s) f = f s
if_sided None f = L.Other

-- and from a signed number
abbrev pub if_signed : Option Amount → (Amount → Said) → Said
if_signed (Some a) f = f a
if_signed None f = L.Other

-- a fill of these parts
abbrev pub fill_said : Option ℕ → Option Side → Option ℕ → Option ℕ → Option Amount → Said
fill_said symbol side quantity price commission =
    if_number symbol (λ s. if_sided side (λ d. if_number quantity (λ q. if_number price (λ p. if_signed commission (λ c.
    L.Fill (record { symbol = s; side = d; quantity = q; price = p; commission = c }))))))

-- five words
abbrev pub fill_line : List ℕ → List ℕ → List ℕ → List ℕ → List ℕ → Said
fill_line symbol side quantity price commission =
    fill_said (numeral_up_to 4294967295 symbol) (side_word side) (numeral_up_to 4294967295 quantity) (numeral_up_to 4294967295 price) (signed_of commission)

-- a fill, if there is one
abbrev pub fill_of : Option Fill → Said
fill_of (Some f) = L.Fill f
fill_of None = L.Other

-- an opening cash of this amount
abbrev pub cash_said : Option Amount → Said
cash_said amount = if_signed amount (λ a. L.Cash a)

-- two words
abbrev pub cash_line : List ℕ → List ℕ → Said
cash_line word amount = cond (alike word cash) (cash_said (signed_of amount)) L.Other

-- what words say: none nothing, two the cash, five a fill
unfoldable pub said_by : List (List ℕ) → Said
said_by [] = L.Nothing
said_by (a ∷ []) = L.Other
said_by (a ∷ b ∷ []) = cash_line a b
said_by (a ∷ b ∷ c ∷ []) = L.Other
said_by (a ∷ b ∷ c ∷ d ∷ []) = L.Other
said_by (a ∷ b ∷ c ∷ d ∷ e ∷ []) = fill_line a b c d e
said_by (a ∷ b ∷ c ∷ d ∷ e ∷ f ∷ more) = L.Other

-- what a line says, its remark left out; its line feed is none of it
abbrev pub said : List ℕ → Said
said line = said_by (words (spoken line))
