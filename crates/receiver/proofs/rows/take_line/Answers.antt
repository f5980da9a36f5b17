-- `receiver::rows::take_line` meets its contract: rows that make no book are left, and a line's turn is that of what it reads as.
use mathlib.Core.Path.{sym, ◌∙◌}
use Rattle.types.proofs.Booleans.{passed, failed}
use Rattle.lines.specs.Read.{change_read}
use Rattle.frames.proofs.Reading.{read_fits}
use Rattle.receiver.specs.Lent.{receiver_at}
use Rattle.receiver.proofs.Turns.{not_taken, taken-delta, taken-other}
use Rattle.receiver.proofs.rows.take_line.Goals as goal

pub returns-then-not-is_book : goal.returns-then-not-is_book
returns-then-not-is_book c =
    let a = c.args in
    sym (not_taken (receiver_at a.bp.now a.bq.now a.ap.now a.aq.now a.state a.counts) a.line.now (failed c.is_book.ensures.0 c.if-not-is_book.true-raw))

pub returns-in-Err : goal.returns-in-Err
returns-in-Err c =
    let a = c.args in
    c.take_other.ensures
    ∙ taken-other (receiver_at a.bp.now a.bq.now a.ap.now a.aq.now a.state a.counts) a.line.now (passed c.is_book.ensures.0 c.if-not-is_book.false-raw) c.in-Err.field-0
    c.in-Err.ensures (change_read c.read_snapshot.result) c.read_snapshot.ensures

pub returns-in-Ok : goal.returns-in-Ok
returns-in-Ok c =
    let a = c.args in
    c.take_delta.ensures
    ∙ taken-delta (receiver_at a.bp.now a.bq.now a.ap.now a.aq.now a.state a.counts) a.line.now (passed c.is_book.ensures.0 c.if-not-is_book.false-raw) _ c.in-Ok.ensures

pub take_delta-requires : goal.take_delta-requires
take_delta-requires c =
    (passed c.is_book.ensures.0 c.if-not-is_book.false-raw, c.is_book.ensures.1, read_fits c.args.line.now _ c.in-Ok.ensures)
