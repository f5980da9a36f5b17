-- Sides by their numbers, as the lines of the feed and callers that are not Rattle give them.
use Rattle.std.specs.Prelude.{ℕ, Bool, cond, eqb}
use Rattle.types.specs.declared.Side.{Side}
use Rattle.types.specs.declared.Side.TheVariants.{Bid, Ask}

-- the number of a side: 0 bid, 1 ask
abbrev pub side_number : Side → ℕ
side_number Bid = 0
side_number Ask = 1

-- the side that a flag names: ask where it is set
abbrev pub side_if : Bool → Side
side_if ask = cond ask Ask Bid

-- the side of a number; whether the number is one of the two is tested where it comes in
abbrev pub side_named : ℕ → Side
side_named n = side_if (eqb n 1)
