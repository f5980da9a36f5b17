-- `feed::wermazul_write_delta` meets its contract: the line of the delta that the numbers name.
use mathlib.Core.Path.{ap, ◌∙◌}
use Rattle.types.specs.Replies.{Reply}
use Rattle.types.specs.Written.{written}
use Rattle.deltas.specs.declared.BookDelta.{BookDelta}
use Rattle.numbered.specs.Memory.{told_left}
use Rattle.exports.specs.Feeds.{line_of, delta_line_by}
use Rattle.numbered.proofs.Named.{left-told}
use Rattle.exports.proofs.feed.wermazul_write_delta.Goals as goal

pub returns-in-Ok : goal.returns-in-Ok
unfolding delta_line_by
returns-in-Ok c =
    left-told c.write_delta.result _ _ _ c.of.ensures c.write_delta.ensures
    ∙ ap (λ (x : Reply BookDelta). told_left (written (line_of x) c.args.out.now)) c.in-Ok.ensures

pub returns-in-Err : goal.returns-in-Err
unfolding delta_line_by
returns-in-Err c = rw c.from.ensures (ap (λ (x : Reply BookDelta). told_left (written (line_of x) c.args.out.now)) c.in-Err.ensures)
