-- `rows::net_market_exposure`: the tests are passed.
use mathlib.Core.Path.{sym, ◌∙◌}
use Rattle.valuation.proofs.Priced.{tested}
use Rattle.valuation.proofs.rows.net_market_exposure.Goals as goal

pub total-requires : goal.total-requires
total-requires c = (tested _ _ (sym c.is_ledger.ensures ∙ c.if-not-is_ledger.false) (sym c.are_prices.ensures ∙ c.if-not-are_prices.false)).sums
