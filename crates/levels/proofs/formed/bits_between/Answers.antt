-- `formed::bits_between` meets its contract. The loop's invariant: the bits so far, and both rows from here to `to`, make the whole.
use native.Mathlib.Omega.{arith}
use mathlib.Core.Path.{◌∙◌}
use Rattle.levels.proofs.Bits.{bits_turn}
use Rattle.levels.proofs.formed.bits_between.Goals as goal

pub loop-i-preserved : goal.loop-i-preserved
loop-i-preserved c = c.loop-i.invariant ∙ bits_turn _ _ c.args.to c.loop-i.bits c.loop-i.i (omega arith) (omega arith) (omega arith)
