-- Fills lent as numbers, five each: the symbol, the side (0 a Bid, 1 an Ask), the quantity, the price and the commission.
use Rattle.std.specs.Prelude.{ℕ, zero, suc, ◌/◌, ◌%◌, Bool, cond, not, ◌&&◌, List, [], ◌∷◌, ◌++◌, length, drop, ℤ, pos, ◌==◌, int_lt, slice_index_or, unsigned_abs}
use Rattle.amount.specs.Whole.{amount}
use Rattle.types.specs.Limits.{sized_within, symbols}
use Rattle.types.specs.Named.{side_named, side_number}
use Rattle.types.specs.Replies.{refused}
use Rattle.types.specs.Runs.{Run, ended}
use Rattle.types.specs.declared.Side.TheVariants.{Bid}
use Rattle.holding.specs.declared.Fill.{Fill}
use Rattle.position.specs.declared.PositionLedger.{PositionLedger}
use Rattle.position.specs.Ledger.{is_ledger}
use Rattle.day.specs.Day.{day_booked}

-- from 0 to the most given
abbrev pub is_up_to : ℕ → ℤ → Bool
is_up_to most z = not (int_lt z (pos 0)) && sized_within most z

-- the largest number of 32 bits, which a symbol, a quantity and a price have
abbrev pub max_word : ℕ
max_word = 4294967295

-- numbers that are a fill: a side is 0 or 1, and the others fit their bits
abbrev pub are_fill : ℤ → ℤ → ℤ → ℤ → Bool
are_fill symbol side quantity price = is_up_to max_word symbol && (is_up_to 1 side && (is_up_to max_word quantity && is_up_to max_word price))

-- numbers that are none count as this one, which is outside its limits: no symbol has its number
abbrev pub no_fill : Fill
no_fill = record { symbol = symbols; side = Bid; quantity = 0; price = 0; commission = amount (pos 0) }

-- the fill of five numbers
unfoldable pub fill_by : ℤ → ℤ → ℤ → ℤ → ℤ → Fill
fill_by symbol side quantity price commission =
    cond (are_fill symbol side quantity price)
    (record { symbol = unsigned_abs symbol; side = side_named (unsigned_abs side); quantity = unsigned_abs quantity; price = unsigned_abs price; commission = amount commission })
    no_fill

-- the fill of the first five of these numbers
abbrev pub first_fill : List ℤ → Fill
first_fill ns = fill_by (slice_index_or ns 0 (pos 0)) (slice_index_or ns 1 (pos 0)) (slice_index_or ns 2 (pos 0)) (slice_index_or ns 3 (pos 0)) (slice_index_or ns 4 (pos 0))

-- the first five of these numbers are a fill
abbrev pub is_first : List ℤ → Bool
is_first ns = are_fill (slice_index_or ns 0 (pos 0)) (slice_index_or ns 1 (pos 0)) (slice_index_or ns 2 (pos 0)) (slice_index_or ns 3 (pos 0))

-- so many fills, of five numbers each
unfoldable pub first_fills : ℕ → List ℤ → List Fill
first_fills zero ns = []
first_fills (suc n) ns = first_fill ns ∷ first_fills n (drop 5 ns)

-- the fills of a list of numbers
abbrev pub fills_by : List ℤ → List Fill
fills_by ns = first_fills (length ns / 5) ns

-- the numbers of a fill
abbrev pub fill_numbers : Fill → List ℤ
fill_numbers f = pos f.symbol ∷ pos (side_number f.side) ∷ pos f.quantity ∷ pos f.price ∷ f.commission.value ∷ []

-- the numbers of fills
unfoldable pub fills_numbers : List Fill → List ℤ
fills_numbers [] = []
fills_numbers (f ∷ fs) = fill_numbers f ++ fills_numbers fs

-- `apply_fills` of numbers: 1, then 2 if they are no multiple of five, else as of the fills that they are
unfoldable pub day_booked_by : PositionLedger → List ℤ → Run PositionLedger
day_booked_by l ns =
    cond (is_ledger l)
    (cond (length ns % 5 == 0) (day_booked l (fills_by ns)) (ended l (refused 2 [])))
    (ended l (refused 1 []))
