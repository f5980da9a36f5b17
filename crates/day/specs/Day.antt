-- A day's fills in one call: taken in order until one is refused.
use Rattle.std.specs.Prelude.{cond, List, []}
use Rattle.types.specs.Replies.{Reply, refused}
use Rattle.types.specs.Answers.{reply_of}
use Rattle.types.specs.Runs.{Run, ended, until_refused}
use Rattle.holding.specs.declared.Fill.{Fill}
use Rattle.position.specs.declared.PositionLedger.{PositionLedger}
use Rattle.position.specs.Ledger.{is_ledger, booked}
use Rattle.day.specs.declared.DayBooked.{DayBooked}
use Rattle.day.specs.declared.RowsDay.{RowsDay}

-- the ledger that a fill leaves
abbrev pub ledger_after : PositionLedger → Fill → PositionLedger
ledger_after l f = (booked l f).ledger

-- what the fill is answered
abbrev pub reply_after : PositionLedger → Fill → Reply (Unit {0})
reply_after l f = (booked l f).reply

-- the fills one by one, as `booked` takes them, until one is refused
abbrev pub booked_in_order : PositionLedger → List Fill → Run PositionLedger
booked_in_order = until_refused ledger_after reply_after

-- `apply_fills`: 1 at once if the record is no ledger, with no fills too; else the fills in order, until one is refused
unfoldable pub day_booked : PositionLedger → List Fill → Run PositionLedger
day_booked l fs = cond (is_ledger l) (booked_in_order l fs) (ended l (refused 1 []))

-- what a call gave back that is lent rows: the ledger that it left in them, with its totals
abbrev pub rows_day_of : PositionLedger → RowsDay → Run PositionLedger
rows_day_of l d = record { stands = l; taken = d.taken; reply = reply_of d.outcome }

-- what a call gave back
abbrev pub day_of : DayBooked → Run PositionLedger
day_of d = record { stands = d.ledger; taken = d.taken; reply = reply_of d.outcome }
