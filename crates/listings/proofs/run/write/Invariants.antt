-- The loop of `run::write`: the first levels of the run stand woven at the front, and the rest of the buffer is as it was.
use Prim.Native.Nat.{◌*◌}
use mathlib.Core.Path.{◌≡◌}
use mathlib.Core.List.{◌++◌}
use lib.ListN.{take, drop}
use Rattle.listings.specs.Listed.{woven}
use Rattle.listings.specs.Inner.Runs.{every_place, in_run}
use Rattle.listings.proofs.run.write.Given as goal

abbrev pub invariant-loop-i : goal.invariant-loop-i
invariant-loop-i l = l.out ≡ woven (take l.i (in_run l.run (every_place l.lent.prices.now l.lent.quantities.now))) ++ drop (2 * l.i) l.initial.out
