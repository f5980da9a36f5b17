-- `wire::number` meets its contract. The invariant: n is the number of the bytes so far, which has room in as many.
use Rattle.std.proofs.Common.{◌≡◌, ◌^◌, ◌<◌, take}
use Rattle.wire.specs.Inner.Spelling.{joined}
use Rattle.wire.proofs.number.Given as goal

abbrev pub invariant-loop-byte : goal.invariant-loop-byte
invariant-loop-byte l = (l.n ≡ joined 0 (take l.byte-index l.byte-items)) × (l.n < 256 ^ l.byte-index)
