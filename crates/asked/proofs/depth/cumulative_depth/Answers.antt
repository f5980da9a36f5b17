-- `asked::depth::cumulative_depth` meets its contract: the total of the places that the price reaches, for a price within the limits.
use Prim.Native.Nat.{◌≤◌}
use native.Mathlib.Nat.{le_trans}
use Rattle.types.proofs.Booleans.{passed}
use Rattle.levels.specs.Inner.Found.{reached_in}
use Rattle.levels.proofs.Found.{reached_few}
use Rattle.asked.proofs.Finds.{lent, reached_total}
use Rattle.asked.proofs.depth.cumulative_depth.Goals as goal
use Rattle.asked.proofs.depth.cumulative_depth.Goals.{After-find}

inside : (c : After-find) → reached_in c.find.result ≤ 128
inside c = rw c.find.ensures (le_trans (reached_few _ _ _ _) c.requires.known.few)

pub reached-reached-requires : goal.reached-reached-requires
reached-reached-requires c = inside c

pub total-requires : goal.total-requires
total-requires c = (c.args.lent.long_quantities, rw c.reached-reached.ensures (inside c.before))

pub returns : goal.returns
returns c = let f = c in
    let l = c in
    let w = l.requires in
    rw (c.total.ensures, c.reached-reached.ensures, f.find.ensures, passed l.is_price.ensures l.if-not-is_price.false-raw, reached_total _ _ _ _ (lent w.known) _ w.order)
