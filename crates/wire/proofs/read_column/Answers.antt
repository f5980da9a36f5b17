-- `wire::read_column` meets its contract. The invariant: the first i numbers stand at the front of the row.
use Rattle.std.proofs.Common.{arith}
use Rattle.wire.proofs.Places.{column_step}
use Rattle.wire.proofs.read_column.Goals as goal

pub loop-i-preserved : goal.loop-i-preserved
loop-i-preserved c =
    let l = c.loop-i in
    column_step l.i c.args.at c.word.result c.args.line.now c.args.row.now l.row (omega arith) l.invariant c.word.ensures
