-- `wire::finish` meets its contract: the line feed stands just after what `put` wrote.
use Prim.Native.Nat.{◌-◌, ◌%◌}
use native.Mathlib.Omega.{arith}
use Rattle.wire.proofs.Places.{ended}
use Rattle.wire.proofs.finish.Goals as goal

pub returns : goal.returns
returns c =
    let a = c.args in
    let p = c.put in
    ended a.out.now p.new.out a.at ((256 - a.sum % 256) % 256) (omega arith) (omega arith) p.ensures.written
