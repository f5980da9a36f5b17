-- The bytes are stored as one piece.
use Rattle.std.proofs.Common.{arith}
use Rattle.decimals.proofs.Puts.{put_piece}
use Rattle.decimals.proofs.put.Goals as goal

pub returns : goal.returns
returns c = let a = c.args in put_piece a.text.now a.out.now _ a.at _ c.requires c.copy_from_slice.ensures.after (omega arith)
