-- Positions that stand in three rows, a place for each symbol: quantities, averages, realized profits.
use Rattle.std.specs.Prelude.{ℕ, Bool, ◌&&◌, List, eqb, get_or, length, ℤ, pos}
use Rattle.amount.specs.Sums.{all_to}
use Rattle.amount.specs.Whole.{amount}
use Rattle.types.specs.Limits.{symbols}
use Rattle.holding.specs.declared.Position.{Position}
use Rattle.holding.specs.Holding.{is_position}

-- the position of a symbol
abbrev pub position_of : List ℤ → List ℕ → List ℤ → ℕ → Position
position_of quantities averages realized i =
    record { quantity = amount (get_or quantities i (pos 0)); average = get_or averages i 0; realized = amount (get_or realized i (pos 0)) }

-- it is within its limits
abbrev pub is_position_of : List ℤ → List ℕ → List ℤ → ℕ → Bool
is_position_of quantities averages realized i = is_position (position_of quantities averages realized i)

-- a row has a place for each symbol
abbrev pub is_row : {A : Type 0} → List A → Bool
is_row xs = eqb (length xs) symbols

-- each row has a place for each symbol, and each position is within its limits
unfoldable pub are_positions : List ℤ → List ℕ → List ℤ → Bool
are_positions quantities averages realized =
    is_row quantities && (is_row averages && (is_row realized && all_to (is_position_of quantities averages realized) symbols))
