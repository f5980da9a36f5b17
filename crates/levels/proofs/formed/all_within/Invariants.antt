-- `formed::all_within` meets its contract. The loop's invariant: the flag, and the definition from here on, make the whole.
use mathlib.Core.Path.{◌≡◌}
use mathlib.Core.Bool.{◌&&◌}
use lib.ListN.{drop}
use Rattle.types.specs.Limits.{within}
use Rattle.levels.specs.Formed.{every}
use Rattle.levels.proofs.formed.all_within.Given as goal

abbrev pub invariant-loop-x : goal.invariant-loop-x
invariant-loop-x l = every (within 0 l.hi) l.row ≡ l.ok && every (within 0 l.hi) (drop l.x-index l.row)
