-- `receiving::wermazul_receiver_list` meets its contract: 1 by the state, then the listing that the numbers name.
use Prim.Native.Nat.{ℕ}
use mathlib.Core.Path.{ap, ◌∙◌}
use mathlib.Core.List.{List}
use borrow.Author.Tests.{lt-leb, le-leb}
use Rattle.types.specs.Replies.{Reply}
use Rattle.types.specs.Written.{written}
use Rattle.orderbook.specs.Lent.{book_at}
use Rattle.numbered.specs.Memory.{told_left}
use Rattle.exports.specs.Receivers.{held_numbers}
use Rattle.numbered.proofs.Named.{answered, left-told, unwritten}
use Rattle.exports.proofs.Kept.{numbers_alike, refused_alike}
use Rattle.exports.proofs.receiving.wermazul_receiver_list.Goals as goal

pub returns-then-state-gt1 : goal.returns-then-state-gt1
unfolding held_numbers
returns-then-state-gt1 c = rw (c.from.ensures, lt-leb _ _ c.if-state-gt1.true)

pub returns-in-Ok : goal.returns-in-Ok
unfolding held_numbers
returns-in-Ok c =
    rw (le-leb _ _ c.if-state-gt1.false)
    (left-told c.write_at.result _ _ _ c.of.ensures c.write_at.ensures
    ∙ ap (λ (x : Reply (List ℕ)). told_left (written x c.args.out.now))
    (numbers_alike c.from-state.ensures c.of-book.ensures _ ∙ answered (book_at c.args.bp.now c.args.bq.now c.args.ap.now c.args.aq.now c.args.counts) _ _ _ c.in-Ok.ensures))

pub returns-in-Err : goal.returns-in-Err
unfolding held_numbers
returns-in-Err c =
    rw (le-leb _ _ c.if-state-gt1.false)
    (unwritten (book_at c.args.bp.now c.args.bq.now c.args.ap.now c.args.aq.now c.args.counts) _ _ _ _ c.in-Err.why c.in-Err.ensures (refused_alike _ c.refused.ensures c.of-book.ensures))
