-- `asked::side_number` meets its contract: each question is answered by the function of its clause.
use native.Mathlib.Omega.{arith}
use mathlib.Core.Path.{ap, ◌∙◌}
use Rattle.types.specs.Replies.{done}
use Rattle.sides.proofs.Volumes.{limited, counted, all-best}
use Rattle.asked.proofs.side_number.Goals as goal

pub returns-in-LevelCount : goal.returns-in-LevelCount
returns-in-LevelCount c = rw (c.in-LevelCount.is, counted _ _ _ (limited c.requires.known))

pub returns-in-TotalVolume : goal.returns-in-TotalVolume
returns-in-TotalVolume c = let w = c.requires.known in rw c.in-TotalVolume.is (ap done (c.best_total.ensures.0 ∙ all-best _ _ _ (limited w) _ (omega arith)))
