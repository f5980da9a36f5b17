-- It has the length that it says.
use Rattle.std.proofs.Common.{ℕ}
use mathlib.Core.Path.{sym}
use lib.ListN.{length-replicate}
use Rattle.feeding.proofs.output.Goals as goal

pub returns : goal.returns
returns c = sym (length-replicate {0} {A = ℕ} 1572864 0)
