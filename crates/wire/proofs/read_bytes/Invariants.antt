-- `wire::read_bytes` meets its contract. The invariant: the bytes of the first i pairs stand at the front, and no bits say that these are their own digits.
use Rattle.std.proofs.Common.{◌≡◌, ◌++◌, drop}
use Rattle.wire.specs.Inner.Spelling.{spell}
use Rattle.wire.proofs.Spelling.{Own}
use Rattle.wire.proofs.read_bytes.Given as goal

abbrev pub invariant-loop-i : goal.invariant-loop-i
invariant-loop-i l = (l.out ≡ spell l.i l.line ++ drop l.i l.initial.out) × Own l.line l.bits l.i
