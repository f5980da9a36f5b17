-- `put_booked` meets its contract: what the call leaves of the ledger and says of the day is what is put.
use Rattle.day_booking.proofs.put_booked.Goals as goal

pub returns : goal.returns
returns c =
    let run = rw c.totals-totals.ensures at c.apply_fills-day.ensures in
    rw (← run, ← c.of.ensures, ← c.line_behind.ensures, ← c.of-booked.ensures) c.put_day.ensures
