-- `put_positions` meets its contract: each position is put behind those of the symbols before it.
use Rattle.std.proofs.Common.{arith}
use Rattle.holding.specs.Lent.{position_in}
use Rattle.day_printing.proofs.Texts.{no_position, position_room, position-put}
use Rattle.day_printing.proofs.put_positions.Goals as goal

pub loop-i-init : goal.loop-i-init
loop-i-init c =
    let a = c.args in
    no_position (position_in a.positions) a.at a.out.now (omega (arith, c.requires))

pub put_held-next-requires : goal.put_held-next-requires
put_held-next-requires c =
    let l = c.loop-i in
    let a = c.args in
    position_room (position_in a.positions) a.at a.out.now l.i l.next l.out l.invariant (omega arith) c.requires c.at.result

pub loop-i-preserved : goal.loop-i-preserved
loop-i-preserved c =
    let p = c.at in
    let l = c.loop-i in
    let a = c.args in
    let h = c.put_held-next in
    position-put (position_in a.positions) a.at a.out.now l.i l.next l.out l.invariant p.result p.ensures h.result h.new.out h.ensures
