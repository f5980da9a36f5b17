-- `receiving::wermazul_take_line` meets its contract: a receiver takes the line, and another record stays as it was.
use mathlib.Core.Path.{ap, ◌∙◌}
use borrow.Author.Tests.{lt-leb, le-leb}
use Rattle.exports.specs.Receivers.{held_told, taken_by}
use Rattle.exports.proofs.receiving.wermazul_take_line.Goals as goal

pub returns-then-state-gt1 : goal.returns-then-state-gt1
unfolding taken_by
returns-then-state-gt1 c = rw (c.from.ensures, lt-leb _ _ c.if-state-gt1.true)

pub returns : goal.returns
unfolding taken_by
returns c = rw (c.of.ensures, c.from-3.ensures) (ap held_told c.take_line-turned.ensures ∙ rw (c.from-2.ensures, le-leb _ _ c.if-state-gt1.false))
