-- A number in decimal digits, with a sign or without, a pair of numbers as a line, and what putting bytes into memory leaves.
use Rattle.std.specs.Prelude.{ℕ, zero, suc, ◌+◌, ◌/◌, ◌%◌, ◌≤◌, Bool, cond, ◌≡◌, List, [], ◌∷◌, ◌++◌, ltb, length}
use Rattle.std.proofs.lemmas.List.Edits.{sets}

-- the character of a digit
abbrev pub digit : ℕ → ℕ
digit d = 48 + d

-- the digits of a number, the last k at most, without zeros in front
unfoldable pub last_digits : ℕ → ℕ → List ℕ
last_digits zero n = []
last_digits (suc k) n = cond (ltb n 10) (digit n ∷ []) (last_digits k (n / 10) ++ (digit (n % 10) ∷ []))

-- a number in decimal: 20 digits hold every u64
abbrev pub decimal : ℕ → List ℕ
decimal n = last_digits 20 n

-- a minus sign, if there is one, and a number in decimal
unfoldable pub signed_decimal : Bool → ℕ → List ℕ
signed_decimal negative n = cond negative (45 ∷ decimal n) (decimal n)

-- two numbers, a space between them and a line feed after them
unfoldable pub pair : ℕ → ℕ → List ℕ
pair a b = decimal a ++ (32 ∷ (decimal b ++ (10 ∷ [])))

-- Bytes put at a place: they stand there one after the other, all of them, all other places are as they were, and the answer is the place behind them.
pub record Puts (bytes : List ℕ) (at : ℕ) (before after : List ℕ) (next : ℕ) : Type 0 where
  pub stored : after ≡ sets before at bytes
  pub behind : next ≡ at + length bytes
  pub fits : next ≤ length after
