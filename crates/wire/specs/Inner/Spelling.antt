-- Bytes read from digits, and numbers from bytes: what a line is read by. specs/Wire.antt says what a line is.
use Rattle.std.specs.Prelude.{ℕ, zero, suc, ◌+◌, ◌*◌, ◌≡◌, Bool, true, List, [], ◌∷◌, ◌++◌, take, drop, fold}
use Rattle.wire.specs.Wire.{digits_of, field}

-- the bytes that n pairs of digits spell
abbrev pub spell : ℕ → List ℕ → List ℕ
spell zero l = []
spell (suc n) l = field 0 1 l ∷ spell n (drop 2 l)

-- the number of bytes, big-endian, after bytes that make n
abbrev pub joined : ℕ → List ℕ → ℕ
joined n bs = fold (λ m b. m * 256 + b) n bs

-- bytes read from n pairs of digits to the front of some memory, and whether these are the bytes' own digits
pub record Spelt (n : ℕ) (l before after : List ℕ) (r : Bool) : Type 0 where
  pub bytes : after ≡ spell n l ++ drop n before
  pub own : r ≡ true → take (2 * n) l ≡ digits_of (spell n l)
  pub told : take (2 * n) l ≡ digits_of (spell n l) → r ≡ true
