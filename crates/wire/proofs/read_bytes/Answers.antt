-- `wire::read_bytes` meets its contract. The invariant: the bytes of the first i pairs stand at the front, and no bits say that these are their own digits.
use Rattle.std.proofs.Common.{ap, ◌∙◌, arith}
use Rattle.wire.specs.Wire.{digit}
use Rattle.wire.proofs.Spelling.{own_turn, spell_step}
use Rattle.wire.proofs.read_bytes.Goals as goal

pub loop-i-preserved : goal.loop-i-preserved
loop-i-preserved c =
    let l = c.loop-i in
    let a = c.args in
    let x = c.value-x.ensures in
    let y = c.value-y.ensures in (
      spell_step l.i c.value-x.result c.value-y.result a.line.now a.out.now l.out (omega arith) (omega arith) l.invariant.0 x y,
      own_turn a.line.now l.bits l.i c.digit.result c.digit-in-loop-i.result l.invariant.1 (omega arith)
          (c.digit.ensures ∙ ap digit x)
          (c.digit-in-loop-i.ensures ∙ ap digit y),
    )
