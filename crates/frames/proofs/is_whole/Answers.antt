-- `frames::is_whole` meets its contract: each answer is what the action and the tests so far say.
use mathlib.Core.Path.{sym, ◌∙◌}
use native.Mathlib.Omega.{arith}
use Rattle.frames.proofs.Whole.{whole-delta}
use Rattle.frames.proofs.is_whole.Goals as goal

pub returns-in-Set : goal.returns-in-Set
returns-in-Set c = sym (whole-delta c.args.d (omega arith)
    ∙ rw (← c.delta_fits.ensures, c.if-delta_fits.true, c.in-Set.is))

pub returns-in-Remove : goal.returns-in-Remove
returns-in-Remove c = sym (whole-delta c.args.d (omega arith)
    ∙ rw (← c.delta_fits.ensures, c.if-delta_fits.true, c.in-Remove.is))

pub returns-else-delta_fits : goal.returns-else-delta_fits
returns-else-delta_fits c = sym (whole-delta c.args.d (omega arith) ∙ rw (← c.delta_fits.ensures, c.if-delta_fits.false))
