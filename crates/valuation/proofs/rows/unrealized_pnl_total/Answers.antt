-- `rows::unrealized_pnl_total`: the total fits.
use Rattle.valuation.proofs.Priced.{priced_in}
use Rattle.valuation.proofs.rows.unrealized_pnl_total.Goals as goal

pub total-requires : goal.total-requires
total-requires c = (priced_in _ _ c.in_ok-all_priced.ensures).sums
