-- Lines of a day, and what they say.
use Rattle.std.specs.Prelude.{ℕ, ◌≡◌, refl, [], ℤ, pos, neg_ℤ}
use Rattle.amount.specs.Whole.{amount}
use Rattle.types.specs.Bytes.{bytes}
use Rattle.types.specs.declared.Side.{Side}
use Rattle.types.specs.declared.Side.TheVariants.{Bid, Ask}
use Rattle.day_lines.specs.Words.{spoken, parts, not_empty}
use Rattle.numerals.specs.Numerals.{digits_on}
use Rattle.day_lines.specs.Lines.{said_by, said}
use Rattle.day_lines.specs.declared.Said.{Said}
use Rattle.day_lines.specs.declared.Said.TheVariants as L

-- an opening cash, and a fill
abbrev opening : ℤ → Said
opening z = L.Cash (amount z)

abbrev fill : ℕ → Side → ℕ → ℕ → ℤ → Said
fill symbol side quantity price commission =
    L.Fill (record { symbol = symbol; side = side; quantity = quantity; price = price; commission = amount commission })

-- less than zero
abbrev minus : ℕ → ℤ
minus n = neg_ℤ (pos n)

-- the lines of the worked day
worked :
    (said (bytes "cash 10000") ≡ opening (pos 10000))
    × (said (bytes "0 bid 3 100 2") ≡ fill 0 Bid 3 100 (pos 2))
    × (said (bytes "0 bid 2 101 0") ≡ fill 0 Bid 2 101 (pos 0))
    × (said (bytes "0 ask 4 110 1") ≡ fill 0 Ask 4 110 (pos 1))
    × (said (bytes "0 ask 3 90 0") ≡ fill 0 Ask 3 90 (pos 0))
unfolding spoken parts not_empty digits_on said_by
worked = (refl, refl, refl, refl, refl)

-- no byte; a space, a tab and a carriage return; a remark; a remark after blanks
empty :
    (said [] ≡ L.Nothing)
    × (said (bytes " \t\r") ≡ L.Nothing)
    × (said (bytes "# 1 bid") ≡ L.Nothing)
    × (said (bytes " \t#") ≡ L.Nothing)
unfolding spoken parts not_empty digits_on said_by
empty = (refl, refl, refl, refl)

-- blanks at both ends and side by side, a remark at the end of a word, and zeros in front
blanks :
    (said (bytes "\tcash  -5#x") ≡ opening (minus 5))
    × (said (bytes "007 ask 003 0100 -02 \r") ≡ fill 7 Ask 3 100 (minus 2))
unfolding spoken parts not_empty digits_on said_by
blanks = (refl, refl)

-- the ends of the types
ends :
    (said (bytes "cash 9223372036854775807") ≡ opening (pos 9223372036854775807))
    × (said (bytes "cash -9223372036854775808") ≡ opening (minus 9223372036854775808))
    × (said (bytes "4294967295 bid 4294967295 4294967295 9223372036854775807") ≡ fill 4294967295 Bid 4294967295 4294967295 (pos 9223372036854775807))
    × (said (bytes "0 ask 0 0 -9223372036854775808") ≡ fill 0 Ask 0 0 (minus 9223372036854775808))
unfolding spoken parts not_empty digits_on said_by
ends = (refl, refl, refl, refl)

-- one beyond each
beyond :
    (said (bytes "cash 9223372036854775808") ≡ L.Other)
    × (said (bytes "cash -9223372036854775809") ≡ L.Other)
    × (said (bytes "4294967296 bid 1 1 1") ≡ L.Other)
    × (said (bytes "1 bid 4294967296 1 1") ≡ L.Other)
    × (said (bytes "1 bid 1 4294967296 1") ≡ L.Other)
    × (said (bytes "1 bid 1 1 9223372036854775808") ≡ L.Other)
    × (said (bytes "1 bid 1 1 -9223372036854775809") ≡ L.Other)
unfolding spoken parts not_empty digits_on said_by
beyond = (refl, refl, refl, refl, refl, refl, refl)

-- a sign where none may stand, alone, twice, apart from its digits, and a plus sign
signs :
    (said (bytes "-0 bid 3 100 2") ≡ L.Other)
    × (said (bytes "0 bid -3 100 2") ≡ L.Other)
    × (said (bytes "0 bid 3 -100 2") ≡ L.Other)
    × (said (bytes "cash -") ≡ L.Other)
    × (said (bytes "cash --5") ≡ L.Other)
    × (said (bytes "cash - 5") ≡ L.Other)
    × (said (bytes "cash +5") ≡ L.Other)
    × (said (bytes "0 bid 3 100 +2") ≡ L.Other)
unfolding spoken parts not_empty digits_on said_by
signs = (refl, refl, refl, refl, refl, refl, refl, refl)

-- other words, and too few or too many
others :
    (said (bytes "Cash 5") ≡ L.Other)
    × (said (bytes "0 BID 3 100 2") ≡ L.Other)
    × (said (bytes "0 buy 3 100 2") ≡ L.Other)
    × (said (bytes "0 asks 3 100 2") ≡ L.Other)
    × (said (bytes "5 cash") ≡ L.Other)
    × (said (bytes "cash") ≡ L.Other)
    × (said (bytes "cash 5 6") ≡ L.Other)
    × (said (bytes "0 bid 3 100 # 2") ≡ L.Other)
    × (said (bytes "0 bid 3 100 2 0") ≡ L.Other)
    × (said (bytes "0 bid 3x 100 2") ≡ L.Other)
    × (said (bytes "0 bid 3 1.5 2") ≡ L.Other)
unfolding spoken parts not_empty digits_on said_by
others = (refl, refl, refl, refl, refl, refl, refl, refl, refl, refl, refl)
