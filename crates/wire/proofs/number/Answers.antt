-- `wire::number` meets its contract. The invariant: n is the number of the bytes so far, which has room in as many.
use Rattle.std.proofs.Common.{◌+◌, ◌-◌, take, drop, arith}
use Rattle.wire.proofs.Spelling.{joined_more, byte_more, byte_room}
use Rattle.wire.proofs.number.Goals as goal

pub overflow_mul-n : goal.overflow_mul-n
overflow_mul-n c = let l = c.loop-byte in omega (arith, byte_room l.n l.byte-index l.invariant.1 (omega arith))
