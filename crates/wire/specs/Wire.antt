-- Bytes as hexadecimal digits, numbers as bytes, and the line that bytes make.
use Rattle.std.specs.Prelude.{ℕ, zero, suc, ◌+◌, ◌*◌, ◌-◌, ◌/◌, ◌%◌, ◌≤◌, ◌≡◌, List, [], ◌∷◌, ◌++◌, length, take, drop, fold}

-- the line feed
abbrev pub line_feed : ℕ
line_feed = 10

-- the upper-case digit of 0..15: 0 to 9 are 48 to 57, A to F are 65 to 70
unfoldable pub digit : ℕ → ℕ
digit d = 48 + d + 7 * (d / 10)

-- bytes as digits, two a byte
abbrev pub digits_of : List ℕ → List ℕ
digits_of [] = []
digits_of (b ∷ bs) = digit (b / 16) ∷ digit (b % 16) ∷ digits_of bs

-- the k bytes of n, big-endian, and the bytes that follow
abbrev pub be : ℕ → ℕ → List ℕ → List ℕ
be zero n after = after
be (suc k) n after = be k (n / 256) (n % 256 ∷ after)

-- the bytes added up
abbrev pub byte_sum : List ℕ → ℕ
byte_sum [] = 0
byte_sum (b ∷ bs) = b + byte_sum bs

-- the last byte, which makes the sum of all bytes a multiple of 256
unfoldable pub check_byte : List ℕ → ℕ
check_byte bs = (256 - byte_sum bs % 256) % 256

-- the line of a frame's bytes: their digits, those of the check byte, and a line feed
unfoldable pub line : List ℕ → List ℕ
line bs = digits_of (bs ++ check_byte bs ∷ []) ++ line_feed ∷ []

-- the value of a digit; any other byte has some value below 16 too
unfoldable pub value : ℕ → ℕ
value c = (c + 9 * (c / 64)) % 16

-- the number that digits spell, after digits that spell n
abbrev pub spelt : ℕ → List ℕ → ℕ
spelt n cs = fold (λ m c. m * 16 + value c) n cs

-- the number in the k bytes from byte `at` on
abbrev pub field : ℕ → ℕ → List ℕ → ℕ
field at k l = spelt 0 (take (2 * k) (drop (2 * at) l))

-- n numbers of 4 bytes, the first of each 8
abbrev pub column : ℕ → List ℕ → List ℕ
column zero l = []
column (suc n) l = field 0 4 l ∷ column n (drop 16 l)

-- a line after bytes were written into it from byte `at` on, and the sum of those bytes
pub record Part (bs : List ℕ) (at : ℕ) (before after : List ℕ) (sum : ℕ) : Type 0 where
  pub written : after ≡ take (2 * at) before ++ (digits_of bs ++ drop (2 * (at + length bs)) before)
  pub summed : sum ≡ byte_sum bs
  pub small : sum ≤ 256 * length bs
