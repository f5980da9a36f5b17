-- `lines::snapshot::read_side` meets its contract: two columns read into rows of zeros are the table of the levels.
use native.Mathlib.Omega.{arith}
use Rattle.lines.proofs.Rows.{side_read}
use Rattle.lines.proofs.snapshot.read_side.Goals as goal

pub returns : goal.returns
returns c =
    let a = c.args in
    let p = c.read_column in
    let q = c.read_column-2 in
    side_read a.n a.at a.line.now p.new.row q.new.row (omega arith) p.ensures q.ensures
