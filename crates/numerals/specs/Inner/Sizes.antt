-- How large a number is that was read.
use Rattle.std.specs.Prelude.{ℕ, Option, Some, None}

-- the number, 0 where there is none
abbrev pub size_of : Option ℕ → ℕ
size_of (Some n) = n
size_of None = 0
