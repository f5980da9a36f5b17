-- `rows::checked_unrealized_pnl`: a ledger's position is within its limits.
use mathlib.Core.Path.{sym, ◌∙◌}
use native.Mathlib.Omega.{arith}
use Rattle.holding.proofs.Holdings.{price_in}
use Rattle.position.proofs.Ledgers.{held_in_lem}
use Rattle.valuation.proofs.rows.checked_unrealized_pnl.Goals as goal

pub measured-requires : goal.measured-requires
measured-requires c =
    (rw c.at-position.ensures (held_in_lem _ (sym c.is_ledger.ensures ∙ c.if-not-is_ledger.false) _ (omega arith)), price_in _ (sym c.is_price.ensures ∙ c.if-not-is_price.false))
