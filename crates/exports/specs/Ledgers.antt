-- The ledger for Rust and C: its changes and its values, by numbers.
use Rattle.std.specs.Prelude.{ℕ, cond, ◌≡◌, List, [], ◌∷◌, leb, ℤ, pos, get_or}
use Rattle.amount.specs.Whole.{amount}
use Rattle.types.specs.Replies.{Reply, refused, if_record}
use Rattle.types.specs.Runs.{Run, if_done}
use Rattle.holding.specs.declared.Fill.{Fill}
use Rattle.position.specs.declared.PositionLedger.{PositionLedger}
use Rattle.position.specs.Ledger.{Change, is_ledger, booked}
use Rattle.day.specs.Numbers.{day_booked_by}
use Rattle.valuation.specs.Values.{unrealized_total, liquidation, net_exposure, neutral}
use Rattle.told.specs.declared.Told.{Told}
use Rattle.told.specs.Numbers.{tell, nothing, one_amount, yes_or_no}
use Rattle.types.specs.Named.{side_named}
use Rattle.exports.specs.declared.LedgerTold.{LedgerTold}

-- numbers that name nothing: 1 if the record is no ledger, else 2
abbrev pub unnamed : PositionLedger → Reply (Unit {0})
unnamed l = if_record (is_ledger l) (refused 2 [])

-- a ledger after a change, and the reply as numbers
abbrev pub ledger_told : Change → LedgerTold
ledger_told c = record { ledger = c.ledger; told = tell nothing c.reply }

-- a fill of numbers
abbrev pub fill_of : ℕ → ℕ → ℕ → ℕ → ℤ → Fill
fill_of symbol side quantity price commission =
    record { symbol = symbol; side = side_named side; quantity = quantity; price = price; commission = amount commission }

-- apply_fill: sides are 0 and 1
unfoldable pub booked_by : PositionLedger → ℕ → ℕ → ℕ → ℕ → ℤ → Change
booked_by l symbol side quantity price commission =
    cond (leb side 1) (booked l (fill_of symbol side quantity price commission)) (record { ledger = l; reply = unnamed l })

-- One fill by its numbers and a list of that one are booked alike.
abbrev pub OneAlike : Type 0
OneAlike =
    (l : PositionLedger) (symbol side quantity price : ℕ) (commission : ℤ) →
    let one = booked_by l symbol side quantity price commission in
    day_booked_by l (pos symbol ∷ pos side ∷ pos quantity ∷ pos price ∷ commission ∷ [])
    ≡ record { stands = one.ledger; taken = if_done one.reply 1 0; reply = one.reply }

-- a ledger, how many fills it took, and an answer in numbers
pub record LedgerDay : Type 0 where
  pub ledger : PositionLedger
  pub taken : ℕ
  pub told : Told

-- a ledger after a day's fills, and the reply as numbers
abbrev pub day_told : Run PositionLedger → LedgerDay
day_told d = record { ledger = d.stands; taken = d.taken; told = tell nothing d.reply }

-- what the ledger is worth at prices, in order: unrealized_pnl_total, net_liquidation_value, net_market_exposure, delta_neutral_check
abbrev pub worths : PositionLedger → List ℕ → List Told
worths l prices =
    tell one_amount (unrealized_total l prices) ∷ tell one_amount (liquidation l prices) ∷ tell one_amount (net_exposure l prices) ∷
    tell yes_or_no (neutral l prices) ∷ []

-- by their numbers, 0 to 3
unfoldable pub worth_by : PositionLedger → ℕ → List ℕ → Told
worth_by l worth prices = get_or (worths l prices) worth (tell nothing (unnamed l))
