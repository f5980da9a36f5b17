-- `rows::delta_neutral_check`: both totals fit.
use native.Mathlib.Omega.{arith}
use Rattle.pricing.specs.declared.Measure.TheVariants.{Size}
use Rattle.valuation.proofs.Priced.{priced_in}
use Rattle.valuation.proofs.rows.delta_neutral_check.Goals as goal

pub total-net-requires : goal.total-net-requires
total-net-requires c = (priced_in _ _ c.in_ok-all_priced.ensures).sums

pub total-gross-requires : goal.total-gross-requires
total-gross-requires c = (priced_in _ _ c.in_ok-all_priced.ensures).sums

pub is_neutral-requires : goal.is_neutral-requires
is_neutral-requires c = rw (c.size.ensures, c.total-gross.ensures) (omega (arith, (priced_in _ _ c.in_ok-all_priced.ensures).size Size))
