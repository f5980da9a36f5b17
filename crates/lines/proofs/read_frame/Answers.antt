-- `lines::read_frame` meets its contract: a line is a delta, or a snapshot, or damaged.
use Rattle.lines.proofs.AnyLine.{as-snapshot}
use Rattle.lines.proofs.read_frame.Goals as goal

pub returns : goal.returns
returns c = as-snapshot _ _ c.in_ok-read_snapshot.ensures
