-- `book_all`: what was taken so far, counted, with what is left comes to what all of them come to; and what stands is a ledger.
use Rattle.std.proofs.Common.{◌≡◌, true, drop}
use Rattle.types.specs.Runs.{counting}
use Rattle.position.specs.Ledger.{is_ledger}
use Rattle.day.specs.Day.{booked_in_order}
use Rattle.day.proofs.book_all.Given as goal

abbrev pub invariant-loop-fill : goal.invariant-loop-fill
invariant-loop-fill l = (l.taken ≡ l.fill-index) × (is_ledger l.ledger ≡ true) ×
    (counting l.taken (booked_in_order l.ledger (drop l.fill-index l.fills)) ≡ booked_in_order l.initial.ledger l.fills)
