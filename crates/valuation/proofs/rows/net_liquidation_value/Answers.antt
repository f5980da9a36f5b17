-- `rows::net_liquidation_value`: cash and the total together fit.
use native.Mathlib.Omega.{arith}
use Rattle.pricing.specs.declared.Measure.TheVariants.{Worth}
use Rattle.valuation.proofs.Priced.{priced_in}
use Rattle.valuation.proofs.rows.net_liquidation_value.Goals as goal

pub total-worth-requires : goal.total-worth-requires
total-worth-requires c = (priced_in _ _ c.in_ok-all_priced.ensures).sums

pub add-requires : goal.add-requires
add-requires c =
    let k = priced_in _ _ c.in_ok-all_priced.ensures in
    rw c.total-worth.ensures (omega (arith, k.ledger.cash_in, k.size Worth))
