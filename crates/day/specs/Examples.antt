-- Days, computed: the worked example, a refusal in the middle, no fills, records that are no ledger, and fills as numbers.
use Rattle.std.specs.Prelude.{◌≡◌, ℕ, List, [], ◌∷◌, ℤ, pos, refl}
use Rattle.amount.specs.Sums.{all_to}
use Rattle.amount.specs.Whole.{amount}
use Rattle.types.specs.Replies.{Reply, done, refused}
use Rattle.types.specs.Runs.{Run, ended, until_refused}
use Rattle.types.specs.declared.Side.{Side}
use Rattle.types.specs.declared.Side.TheVariants.{Bid, Ask}
use Rattle.holding.specs.Holding.{is_position, is_fill, average_after, position_after}
use Rattle.holding.specs.Rows.{are_positions}
use Rattle.holding.specs.declared.Fill.{Fill}
use Rattle.position.specs.Ledger.{position_at, is_ledger, fresh, filled, settled, booked}
use Rattle.position.specs.Examples.{one, minus}
use Rattle.position.specs.declared.PositionLedger.{PositionLedger}
use Rattle.day.specs.Day.{day_booked}
use Rattle.day.specs.Numbers.{fill_by, first_fills, day_booked_by}

-- a fill of a symbol, without commission
abbrev fill : ℕ → Side → ℕ → ℕ → Fill
fill symbol side n price = record { symbol = symbol; side = side; quantity = n; price = price; commission = amount (pos 0) }

-- how many were taken, how it ended, and the cash and the lots of symbol 0 that it left
abbrev told : Run PositionLedger → ℕ × Reply (Unit {0}) × ℤ × ℤ
told day = (day.taken, day.reply, day.stands.cash.value, (position_at day.stands 0).quantity.value)

-- cash 10000: buy 3 at 100, commission 2; buy 2 at 101; sell 4 at 110, commission 1; sell 3 at 90
abbrev worked : List ℤ
worked =
    pos 0 ∷ pos 0 ∷ pos 3 ∷ pos 100 ∷ pos 2 ∷ pos 0 ∷ pos 0 ∷ pos 2 ∷ pos 101 ∷ pos 0 ∷
    pos 0 ∷ pos 1 ∷ pos 4 ∷ pos 110 ∷ pos 1 ∷ pos 0 ∷ pos 1 ∷ pos 3 ∷ pos 90 ∷ pos 0 ∷ []

-- all four are taken: cash 10205, commission 3, and -2 at 90 with 27 realized
pub worked-day :
    let day = day_booked_by (fresh (pos 10000)) worked in
    (told day ≡ (4, done tt, pos 10205, minus 2)) × (day.stands.commission.value ≡ pos 3)
    × (position_at day.stands 0 ≡ record { quantity = amount (minus 2); average = 90; realized = amount (pos 27) })
unfolding day_booked_by day_booked until_refused first_fills fill_by booked settled filled is_ledger are_positions is_fill is_position position_after average_after all_to
worked-day = (refl, refl, refl)

-- cash 100: the second buy wants 101 and there is 98, so the sale behind it is not booked; the first stands
pub refused-day :
    day_booked (fresh (pos 100)) (fill 0 Bid 2 1 ∷ fill 1 Bid 1 101 ∷ fill 0 Ask 2 5 ∷ [])
    ≡ record { stands = one (pos 98) (pos 2) 1; taken = 1; reply = refused 8 (pos 101 ∷ pos 98 ∷ []) }
unfolding day_booked until_refused booked settled filled is_ledger are_positions is_fill is_position position_after average_after all_to
refused-day = refl

-- the first of all, and the last of all
pub edges :
    (told (day_booked (fresh (pos 9)) (fill 32 Ask 1 1 ∷ fill 0 Bid 1 1 ∷ [])) ≡ (0, refused 2 [], pos 9, pos 0))
    × (told (day_booked (fresh (pos 9)) (fill 0 Bid 1 1 ∷ fill 0 Bid 1 9 ∷ [])) ≡ (1, refused 8 (pos 9 ∷ pos 8 ∷ []), pos 8, pos 1))
    × (told (day_booked (fresh (pos 9)) (fill 0 Bid 1 1 ∷ fill 0 Bid 1 8 ∷ [])) ≡ (2, done tt, pos 0, pos 2))
unfolding day_booked until_refused booked settled filled is_ledger are_positions is_fill is_position position_after average_after all_to
edges = (refl, refl, refl)

-- an average where there are no lots
abbrev no_ledger : PositionLedger
no_ledger = one (pos 9) (pos 0) 1

-- no fills to a ledger are 0; to a record that is none, they are 1, as a fill is, and as numbers are that are none
pub none-taken :
    (day_booked (fresh (pos 9)) [] ≡ ended (fresh (pos 9)) (done tt))
    × (day_booked no_ledger [] ≡ ended no_ledger (refused 1 []))
    × (day_booked no_ledger (fill 0 Ask 1 1 ∷ []) ≡ ended no_ledger (refused 1 []))
    × (day_booked_by no_ledger (pos 1 ∷ []) ≡ ended no_ledger (refused 1 []))
    × (day_booked_by (fresh (pos 9)) [] ≡ ended (fresh (pos 9)) (done tt))
unfolding day_booked_by day_booked until_refused first_fills booked is_ledger are_positions is_position all_to
none-taken = (refl, refl, refl, refl, refl)

-- numbers that are no fill are 2 in their turn: a side of 2 or -1, a symbol of -1, a quantity or a price of more than 32 bits; so are fills outside their
-- limits; numbers that are no multiple of five are 2 at once
pub no_fills :
    (told (day_booked_by (fresh (pos 9)) (pos 0 ∷ pos 0 ∷ pos 1 ∷ pos 1 ∷ pos 0 ∷ pos 0 ∷ pos 2 ∷ pos 1 ∷ pos 1 ∷ pos 0 ∷ [])) ≡ (1, refused 2 [], pos 8, pos 1))
    × (told (day_booked_by (fresh (pos 9)) (pos 0 ∷ minus 1 ∷ pos 1 ∷ pos 1 ∷ pos 0 ∷ [])) ≡ (0, refused 2 [], pos 9, pos 0))
    × (told (day_booked_by (fresh (pos 9)) (minus 1 ∷ pos 0 ∷ pos 1 ∷ pos 1 ∷ pos 0 ∷ [])) ≡ (0, refused 2 [], pos 9, pos 0))
    × (told (day_booked_by (fresh (pos 9)) (pos 0 ∷ pos 0 ∷ pos 4294967297 ∷ pos 1 ∷ pos 0 ∷ [])) ≡ (0, refused 2 [], pos 9, pos 0))
    × (told (day_booked_by (fresh (pos 9)) (pos 0 ∷ pos 0 ∷ pos 1 ∷ pos 4294967297 ∷ pos 0 ∷ [])) ≡ (0, refused 2 [], pos 9, pos 0))
    × (told (day_booked_by (fresh (pos 9)) (pos 4294967296 ∷ pos 0 ∷ pos 1 ∷ pos 1 ∷ pos 0 ∷ [])) ≡ (0, refused 2 [], pos 9, pos 0))
    × (told (day_booked_by (fresh (pos 9)) (pos 0 ∷ pos 0 ∷ pos 1 ∷ pos 0 ∷ pos 0 ∷ [])) ≡ (0, refused 2 [], pos 9, pos 0))
    × (told (day_booked_by (fresh (pos 9)) (pos 0 ∷ pos 0 ∷ pos 1 ∷ pos 1 ∷ pos 0 ∷ pos 0 ∷ [])) ≡ (0, refused 2 [], pos 9, pos 0))
unfolding day_booked_by day_booked until_refused first_fills fill_by booked settled filled is_ledger are_positions is_fill is_position position_after average_after all_to
no_fills = (refl, refl, refl, refl, refl, refl, refl, refl)
