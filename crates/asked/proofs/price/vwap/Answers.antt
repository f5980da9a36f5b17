-- `asked::price::vwap` meets its contract: 0 over 1 for target 0, and the one price for any other target within the limits.
use mathlib.Core.Path.{◌≡◌}
use mathlib.Core.Bool.{true}
use native.Mathlib.Omega.{arith}
use borrow.Author.Tests.{ne_eqb}
use Rattle.types.specs.Limits.{is_quantity}
use Rattle.types.proofs.Booleans.{passed, failed}
use Rattle.quotient.proofs.Overs.{over_some}
use Rattle.sides.specs.Questions.{vwap_of}
use Rattle.asked.proofs.price.vwap.Goals as goal
use Rattle.asked.proofs.price.vwap.Goals.{Else-not-is_quantity}

fits : (c : Else-not-is_quantity) → is_quantity c.args.target ≡ true
fits c = passed c.is_quantity.ensures c.if-not-is_quantity.false-raw

pub returns-then-not-is_quantity : goal.returns-then-not-is_quantity
unfolding vwap_of
returns-then-not-is_quantity c = rw (failed c.is_quantity.ensures c.if-not-is_quantity.true-raw)

pub returns-then-target-eq0 : goal.returns-then-target-eq0
unfolding vwap_of
returns-then-target-eq0 c = rw (fits c.before.before.before, c.if-target-eq0.true, c.over.ensures, c.of.ensures, over_some _ 1 (λ e. omega arith))

pub returns : goal.returns
unfolding vwap_of
returns c = rw (fits c.before.before, ne_eqb _ _ c.if-target-eq0.false, c.price_or.ensures)
