-- `keep` meets its contract: as many bytes are moved as there are, or as are kept.
use Rattle.std.proofs.Common.{ap, take, ◌∙◌}
use Rattle.chunks.proofs.Kept.{moved}
use Rattle.chunks.proofs.keep.Goals as goal

pub returns-clause-buf_after : goal.returns-clause-buf_after
returns-clause-buf_after c =
    let a = c.args in
    let n = c.min-n in
    ap (take n.result) c.copy_within.ensures.after ∙ moved a.buf.now a.from a.to n.result c.requires.0 c.requires.1 n.ensures
