-- `rows::first_open`: no symbol passed has such a position.
use native.Mathlib.Omega.{arith}
use borrow.Author.Tests.{lt-ltb}
use Rattle.amount.proofs.Sums.{first-none, first_more, first_found}
use Rattle.pricing.proofs.Measures.{prices_in}
use Rattle.pricing.proofs.rows.first_open.Goals as goal

pub loop-i-init : goal.loop-i-init
loop-i-init c = first-none _

pub bounds-prices-i : goal.bounds-prices-i
bounds-prices-i c = omega (arith, (prices_in c.args.prices.now c.requires).many)

pub loop-i-preserved : goal.loop-i-preserved
loop-i-preserved c = first_more _ c.loop-i.i c.loop-i.invariant (rw (c.is_open.ensures, c.at.ensures) at c.if-is_open.false)

pub returns-then-is_open : goal.returns-then-is_open
returns-then-is_open c =
    rw (first_found _ 32 c.loop-i.i (omega arith) c.loop-i.invariant (rw (c.is_open.ensures, c.at.ensures) at c.if-is_open.true), lt-ltb c.loop-i.i 32 (omega arith))
