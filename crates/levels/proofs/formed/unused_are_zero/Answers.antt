-- `formed::unused_are_zero` meets its contract where fewer than 8 places are left: those before the end of a row are all.
use native.Mathlib.Omega.{arith}
use mathlib.Core.Path.{◌∙◌}
use Rattle.levels.proofs.Bits.{both_whole}
use Rattle.levels.proofs.formed.unused_are_zero.Goals as goal

pub returns-then-n-gt-LAST_BLOCK : goal.returns-then-n-gt-LAST_BLOCK
returns-then-n-gt-LAST_BLOCK c = c.bits_between.ensures ∙ both_whole c.args.n 128 _ _ (omega arith) (omega arith)
