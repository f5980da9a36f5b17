-- `formed::bits_between` meets its contract. The loop's invariant: the bits so far, and both rows from here to `to`, make the whole.
use mathlib.Core.Path.{◌≡◌}
use mathlib.Core.Bool.{◌&&◌}
use lib.Dec.{eqb}
use lib.ListN.{take}
use Rattle.levels.proofs.Bits.{both}
use Rattle.levels.proofs.formed.bits_between.Given as goal

abbrev pub invariant-loop-i : goal.invariant-loop-i
invariant-loop-i l = both l.from (take l.to l.prices) (take l.to l.quantities) ≡ eqb l.bits 0 && both l.i (take l.to l.prices) (take l.to l.quantities)
