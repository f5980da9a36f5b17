-- `formed::all_bits` meets its contract. The loop's invariant: no number so far is above the bits so far.
use mathlib.Core.Path.{◌≡◌}
use mathlib.Core.Bool.{true}
use lib.ListN.{take}
use Rattle.types.specs.Limits.{within}
use Rattle.levels.specs.Formed.{every}
use Rattle.levels.proofs.formed.all_bits.Given as goal

abbrev pub invariant-loop-x : goal.invariant-loop-x
invariant-loop-x l = every (within 0 l.bits) (take l.x-index l.row) ≡ true
