-- `rows::book_all`: what was taken so far, counted, with what is left comes to what all of them come to; and what stands is a ledger.
use Rattle.std.specs.Slice.Iter.{chunks_exact_rest, chunks_exact_size}
use Rattle.std.proofs.Common.{◌≡◌, ◌+◌, ◌*◌, true, length}
use Rattle.types.specs.Runs.{counting}
use Rattle.position.specs.Ledger.{is_ledger}
use Rattle.position.specs.Lent.{ledger_at}
use Rattle.day.specs.Day.{booked_in_order}
use Rattle.day.specs.Numbers.{fills_by}
use Rattle.day.proofs.rows.book_all.Given as goal

abbrev pub invariant-loop-five : goal.invariant-loop-five
invariant-loop-five l = record {
  size : chunks_exact_size l.five-iterator ≡ 5;
  few : 5 * l.taken + length (chunks_exact_rest l.five-iterator) ≡ length l.numbers;
  stands : is_ledger (ledger_at l.quantities l.averages l.realized l.totals) ≡ true;
  day : counting l.taken (booked_in_order (ledger_at l.quantities l.averages l.realized l.totals) (fills_by (chunks_exact_rest l.five-iterator))) ≡
      booked_in_order (ledger_at l.initial.quantities l.initial.averages l.initial.realized l.initial.totals) (fills_by l.numbers);
}
