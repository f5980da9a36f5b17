-- `put_levels` meets its contract. The loop's invariant: the text of the levels that are left is owed.
use native.Mathlib.Omega.{arith}
use Rattle.printing.proofs.Texts.{same-levels, side_room, side-put, side_end}
use Rattle.printing.proofs.ends.put_levels.Goals as goal

pub put_level-next-requires : goal.put_level-next-requires
put_level-next-requires c =
    let l = c.loop-i in
    let a = c.args in
    let s = a.side in
    let m = c.min-i-end in
    side_room a.word.now s.prices.now s.quantities.now m.result l.i s.long_prices s.long_quantities (omega arith) _ a.at a.out.now l.next l.out l.invariant (omega arith)
    (rw (same-levels s.prices.now s.quantities.now s.count m.result s.long_prices s.long_quantities m.ensures) c.requires)

pub loop-i-preserved : goal.loop-i-preserved
loop-i-preserved c =
    let l = c.loop-i in
    let a = c.args in
    let s = a.side in
    let p = c.put_level-next in
    side-put a.word.now s.prices.now s.quantities.now c.min-i-end.result l.i s.long_prices s.long_quantities (omega arith) _ a.at a.out.now l.next l.out l.invariant (omega arith)
    p.result p.new.out p.ensures

pub returns : goal.returns
returns c =
    let l = c.loop-i in
    let a = c.args in
    let s = a.side in
    let m = c.min-i-end in
    let e = same-levels s.prices.now s.quantities.now s.count m.result s.long_prices s.long_quantities m.ensures in
    rw e at
    (side_end a.word.now s.prices.now s.quantities.now m.result l.i s.long_prices s.long_quantities (omega arith) _ a.at a.out.now l.next l.out l.invariant (omega arith)
    (rw e c.requires))
