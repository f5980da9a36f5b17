-- `sides::volume::best_total` meets its contract: the sum of the first k places, or of all that are used.
use Rattle.sides.proofs.Volumes.{limited, least_total}
use Rattle.sides.proofs.volume.best_total.Goals as goal

pub returns : goal.returns
returns c = least_total _ _ _ (limited c.requires) _ _ c.min.ensures c.total.ensures
