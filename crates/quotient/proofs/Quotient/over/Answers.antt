-- `quotient::Quotient::over` meets its contract: one law for each answer.
use mathlib.Core.Path.{sym}
use Rattle.quotient.specs.Over.{over}
use Rattle.quotient.proofs.Overs.{over_none, over_some}
use Rattle.quotient.proofs.Quotient.over.Goals as goal

pub returns-then-denominator-eq0 : goal.returns-then-denominator-eq0
returns-then-denominator-eq0 c = sym (over_none _ _ c.if-denominator-eq0.true)

pub returns : goal.returns
unfolding over
returns c = sym (over_some _ _ c.if-denominator-eq0.false)
