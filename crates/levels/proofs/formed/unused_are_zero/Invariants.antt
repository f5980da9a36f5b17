-- `formed::unused_are_zero` meets its contract. The loop's invariant: the bits so far, and both rows from this block on, make the whole.
use Prim.Native.Nat.{◌%◌}
use mathlib.Core.Path.{◌≡◌}
use mathlib.Core.Bool.{◌&&◌}
use lib.Dec.{eqb}
use Rattle.levels.proofs.Bits.{both}
use Rattle.levels.proofs.formed.unused_are_zero.Given as goal

abbrev pub invariant-loop-i : goal.invariant-loop-i
invariant-loop-i l = (l.i % 8 ≡ 0) × (both l.n l.prices l.quantities ≡ eqb l.bits 0 && both l.i l.prices l.quantities)
