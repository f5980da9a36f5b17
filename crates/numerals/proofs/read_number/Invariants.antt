-- `read_number` meets its contract. The loop's invariant: what is left to read gives what the whole word gives.
use Rattle.std.proofs.Common.{◌≡◌, ◌≤◌, drop}
use Rattle.numerals.specs.Numerals.{digits_on, bounded, numeral_up_to}
use Rattle.numerals.proofs.read_number.Given as goal

abbrev pub invariant-loop-byte : goal.invariant-loop-byte
invariant-loop-byte l = record {
  within : l.n ≤ l.limit;
  left : numeral_up_to l.limit l.word ≡ bounded l.limit (digits_on l.n (drop l.byte-index l.word));
}
