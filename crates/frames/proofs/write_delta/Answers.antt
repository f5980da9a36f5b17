-- `frames::write_delta` meets its contract: the limits are tested, then the room, and then the line is put at the front.
use mathlib.Core.Path.{ap, ◌∙◌}
use mathlib.Core.List.{◌++◌}
use native.Mathlib.Omega.{arith}
use lib.ListN.{drop}
use Rattle.types.proofs.Writes.{none_written, no_room, all-written}
use Rattle.deltas.specs.declared.BookDelta.{BookDelta}
use Rattle.frames.specs.Frames.{delta, encode}
use Rattle.frames.specs.Sent.{as_sent, delta_line}
use Rattle.frames.proofs.Whole.{delta-length}
use Rattle.frames.proofs.Writing.{delta-line, delta_refused}
use Rattle.types.proofs.Booleans.{passed, failed}
use Rattle.frames.proofs.write_delta.Goals as goal

pub returns-then-out-lt41 : goal.returns-then-out-lt41
returns-then-out-lt41 c =
    let a = c.args in
    no_room (delta_line a.d) a.out.now (encode (delta (as_sent a.d))) (delta-line a.d (passed c.delta_fits.ensures c.if-not-delta_fits.false-raw))
    (omega (arith, delta-length (as_sent a.d)))

pub returns : goal.returns
returns c =
    let a = c.args in
    let s = c.as_sent in
    let p = c.put_delta in
    all-written (delta_line a.d) a.out.now (encode (delta (as_sent a.d))) p.new.out 41
    (delta-line a.d (passed c.delta_fits.ensures c.if-not-delta_fits.false-raw)) (delta-length (as_sent a.d))
    (omega arith)
    (p.ensures ∙ ap (λ (d : BookDelta). encode (delta d) ++ drop 41 a.out.now) s.ensures)

pub returns-then-not-delta_fits : goal.returns-then-not-delta_fits
returns-then-not-delta_fits c =
    let a = c.args in
    none_written (delta_line a.d) a.out.now 2 (delta_refused a.d (failed c.delta_fits.ensures c.if-not-delta_fits.true-raw))
