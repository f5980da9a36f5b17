-- `ledger::wermazul_worth` meets its contract: each number has its worth.
use native.Mathlib.Omega.{arith}
use mathlib.Core.Path.{ap, ◌∙◌}
use Rattle.told.specs.Numbers.{tell, nothing, one_amount, yes_or_no}
use Rattle.position.specs.declared.PositionLedger.{PositionLedger}
use Rattle.valuation.specs.Values.{unrealized_total, liquidation, net_exposure, neutral}
use Rattle.exports.specs.Ledgers.{unnamed, worth_by}
use Rattle.exports.proofs.Worths.{worth_unnamed}
use Rattle.exports.proofs.ledger.wermazul_worth.Goals as goal

pub returns-in-0 : goal.returns-in-0
unfolding worth_by
returns-in-0 c = rw c.in-0.is (c.of.ensures ∙ ap (tell one_amount) (c.unrealized_pnl_total.ensures ∙ ap (λ (l : PositionLedger). unrealized_total l c.args.prices.now) c.of-ledger.ensures))

pub returns-in-1 : goal.returns-in-1
unfolding worth_by
returns-in-1 c = rw c.in-1.is (c.of-in-1.ensures ∙ ap (tell one_amount) (c.net_liquidation_value.ensures ∙ ap (λ (l : PositionLedger). liquidation l c.args.prices.now) c.of-ledger.ensures))

pub returns-in-2 : goal.returns-in-2
unfolding worth_by
returns-in-2 c = rw c.in-2.is (c.of-in-2.ensures ∙ ap (tell one_amount) (c.net_market_exposure.ensures ∙ ap (λ (l : PositionLedger). net_exposure l c.args.prices.now) c.of-ledger.ensures))

pub returns-in-3 : goal.returns-in-3
unfolding worth_by
returns-in-3 c = rw c.in-3.is (c.of-in-3.ensures ∙ ap (tell yes_or_no) (c.delta_neutral_check.ensures ∙ ap (λ (l : PositionLedger). neutral l c.args.prices.now) c.of-ledger.ensures))

pub returns-in_default : goal.returns-in_default
unfolding worth_by
returns-in_default c =
    rw (c.unnamed.ensures ∙ ap (λ (l : PositionLedger). tell nothing (unnamed l)) c.of-ledger.ensures, worth_unnamed _ c.args.worth _ (omega arith))
