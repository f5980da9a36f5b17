-- `lines::snapshot::put_levels` meets its contract. The invariant: the first i levels are written, and the sum is that of their bytes.
use native.Mathlib.Omega.{arith}
use Rattle.levels.specs.Table.{levels, rows}
use Rattle.wire.proofs.Places.{no_part}
use Rattle.lines.proofs.Rows.{level_step, rows-length, side_sum}
use Rattle.lines.proofs.snapshot.put_levels.Goals as goal

pub overflow_add-sum : goal.overflow_add-sum
overflow_add-sum c =
    let a = c.args in
    let l = c.loop-i in
    let k = rows-length a.lent.prices.now a.lent.quantities.now l.i (omega arith) (omega arith) in
    let s = side_sum (levels (rows a.lent.prices.now a.lent.quantities.now l.i)) l.i a.at _ _ l.sum k (omega arith) l.invariant in
    let t = c.put3-sum.ensures.small in
    omega arith

pub loop-i-preserved : goal.loop-i-preserved
loop-i-preserved c =
    let a = c.args in
    let l = c.loop-i in
    let p = c.put3-sum in
    level_step a.lent.prices.now a.lent.quantities.now l.i a.at a.out.now l.out p.new.out l.sum p.result
    (omega arith) (omega arith) (omega arith) l.invariant p.ensures
