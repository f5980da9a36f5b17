-- `receiving::wermazul_receiver_ask` meets its contract: 1 by the state, then the question that the numbers name.
use mathlib.Core.Path.{ap, ◌∙◌}
use borrow.Author.Tests.{lt-leb, le-leb}
use Rattle.told.specs.Numbers.{tell}
use Rattle.orderbook.specs.Lent.{book_at}
use Rattle.questions.specs.Asked.{values_in}
use Rattle.exports.specs.Receivers.{held_ask}
use Rattle.numbered.proofs.Named.{answered, unanswered}
use Rattle.exports.proofs.Kept.{asked_alike, refused_alike}
use Rattle.exports.proofs.receiving.wermazul_receiver_ask.Goals as goal

pub returns-then-state-gt1 : goal.returns-then-state-gt1
unfolding held_ask
returns-then-state-gt1 c = rw (c.from.ensures, lt-leb _ _ c.if-state-gt1.true)

pub returns-in-Ok : goal.returns-in-Ok
unfolding held_ask
returns-in-Ok c =
    rw (le-leb _ _ c.if-state-gt1.false)
    (c.of.ensures ∙ ap (tell values_in) (c.ask_at.ensures ∙ asked_alike c.from-state.ensures c.of-book.ensures _ ∙ answered (book_at c.args.bp.now c.args.bq.now c.args.ap.now c.args.aq.now c.args.counts) _ _ _ c.in-Ok.ensures))

pub returns-in-Err : goal.returns-in-Err
unfolding held_ask
returns-in-Err c =
    rw (le-leb _ _ c.if-state-gt1.false) (refused_alike _ c.refused.ensures c.of-book.ensures ∙ unanswered (book_at c.args.bp.now c.args.bq.now c.args.ap.now c.args.aq.now c.args.counts) _ _ values_in c.in-Err.why c.in-Err.ensures)
