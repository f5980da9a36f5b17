-- `asked::price::impact` meets its contract: 10 for target 0, and the one price for any other target within the limits.
use mathlib.Core.Path.{◌≡◌}
use mathlib.Core.Bool.{true}
use borrow.Author.Tests.{ne_eqb}
use Rattle.types.specs.Limits.{is_quantity}
use Rattle.types.proofs.Booleans.{passed, failed}
use Rattle.sides.specs.Questions.{impact_of}
use Rattle.asked.proofs.price.impact.Goals as goal
use Rattle.asked.proofs.price.impact.Goals.{Else-not-is_quantity}

fits : (c : Else-not-is_quantity) → is_quantity c.args.target ≡ true
fits c = passed c.is_quantity.ensures c.if-not-is_quantity.false-raw

pub returns-then-not-is_quantity : goal.returns-then-not-is_quantity
unfolding impact_of
returns-then-not-is_quantity c = rw (failed c.is_quantity.ensures c.if-not-is_quantity.true-raw)

pub returns-then-target-eq0 : goal.returns-then-target-eq0
unfolding impact_of
returns-then-target-eq0 c = rw (fits c.before, c.if-target-eq0.true)

pub returns : goal.returns
unfolding impact_of
returns c = rw (fits c.before.before, ne_eqb _ _ c.if-target-eq0.false, c.price_or.ensures)
