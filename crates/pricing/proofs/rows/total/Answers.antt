-- `rows::total`: the sum so far is the definition's, and no sum of at most 32 terms comes near 2^63.
use native.Mathlib.Omega.{arith}
use Rattle.amount.proofs.Sums.{sum-none, sum_more}
use Rattle.holding.specs.Lent.{position_in}
use Rattle.holding.proofs.Places.{held_in_lem}
use Rattle.pricing.proofs.Measures.{prices_in}
use Rattle.pricing.proofs.Totals.{term_size, total_size}
use Rattle.pricing.proofs.rows.total.Goals as goal

pub loop-i-init : goal.loop-i-init
loop-i-init c = rw (c.of-sum.ensures, sum-none _)

pub bounds-prices-i : goal.bounds-prices-i
bounds-prices-i c = omega (arith, (prices_in c.args.prices.now c.requires.1).many)

pub measured-requires : goal.measured-requires
measured-requires c =
    (rw c.at.ensures (held_in_lem _ _ _ c.requires.0 c.loop-i.i (omega arith)), (prices_in c.args.prices.now c.requires.1).each _ (omega arith))

pub add-sum-requires : goal.add-sum-requires
add-sum-requires c =
    let a = c.args in
    let fit = held_in_lem _ _ _ c.requires.0 in
    rw (c.loop-i.invariant, c.measured.ensures, c.at.ensures)
    (omega (
      arith,
      total_size a.measure (position_in a.positions) a.prices.now fit c.requires.1 c.loop-i.i (omega arith),
      term_size a.measure (position_in a.positions) a.prices.now fit c.requires.1 c.loop-i.i (omega arith),
    ))

pub loop-i-preserved : goal.loop-i-preserved
loop-i-preserved c = rw (c.add-sum.ensures, c.loop-i.invariant, c.measured.ensures, c.at.ensures, sum_more _ c.loop-i.i)
