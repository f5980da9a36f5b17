-- Words as numbers: decimal digits, and before those of a signed number a minus sign or none. A number past its limit is none.
use Rattle.std.specs.Prelude.{ℕ, ◌+◌, ◌-◌, ◌*◌, Bool, ◌&&◌, cond, List, [], ◌∷◌, eqb, leb, pos, neg_ℤ, get_or, drop, Option, Some, None}
use Rattle.amount.specs.declared.Amount.{Amount}
use Rattle.amount.specs.Whole.{amount}

-- the characters 0 to 9
abbrev pub is_digit : ℕ → Bool
is_digit b = leb 48 b && leb b 57

-- a number with one more digit behind it
abbrev pub further : ℕ → ℕ → ℕ
further n b = n * 10 + (b - 48)

-- the number that n and the digits behind it make; none where a byte is no digit
unfoldable pub digits_on : ℕ → List ℕ → Option ℕ
digits_on n [] = Some n
digits_on n (b ∷ bs) = cond (is_digit b) (digits_on (further n b) bs) None

-- the number of a word: one digit at least
abbrev pub numeral : List ℕ → Option ℕ
numeral [] = None
numeral (b ∷ bs) = digits_on 0 (b ∷ bs)

-- a number within its limit
abbrev pub bounded : ℕ → Option ℕ → Option ℕ
bounded limit None = None
bounded limit (Some n) = cond (leb n limit) (Some n) None

-- a word as a number up to a limit
abbrev pub numeral_up_to : ℕ → List ℕ → Option ℕ
numeral_up_to limit w = bounded limit (numeral w)

-- a number with one more digit, within its limit
abbrev pub with_digit : ℕ → ℕ → ℕ → Option ℕ
with_digit limit n b = cond (is_digit b) (bounded limit (Some (further n b))) None

-- a size as a number from zero up
abbrev pub above : Option ℕ → Option Amount
above (Some n) = Some (amount (pos n))
above None = None

-- and as one from zero down
abbrev pub below : Option ℕ → Option Amount
below (Some n) = Some (amount (neg_ℤ (pos n)))
below None = None

-- a word as a signed number of 64 bits, a minus sign before its digits or none
abbrev pub signed_of : List ℕ → Option Amount
signed_of w = cond (eqb (get_or w 0 0) 45) (below (numeral_up_to 9223372036854775808 (drop 1 w))) (above (numeral_up_to 9223372036854775807 w))
