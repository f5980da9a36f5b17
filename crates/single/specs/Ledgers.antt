-- The calls of crates position and valuation.
use Rattle.std.specs.Prelude.{◌≡◌, Result}
use Rattle.std.proofs.Common.{ap, sym, ◌∙◌}
use Rattle.types.specs.Answers.{reply_of}
use Rattle.types.specs.declared.Refusal.{Refusal}
use Rattle.types.proofs.Once.{one_answer}
use Rattle.position.specs.Ledger.{Change}
use Rattle.position.specs.Lent.{ledger_in, totals_in}
use Rattle.position.specs.declared.Totals.{Totals}
use Rattle.position.specs.declared.lent.LedgerRows.{LedgerRows}
use Rattle.position.proofs.Once.{one_change}
use Rattle.position.proofs.PositionLedger as P
use Rattle.position.proofs.rows as R
use Rattle.position.proofs.lent.LedgerRows as L
use Rattle.valuation.proofs as W
use Rattle.single.specs.One.{One, OneWith, one}
use Rattle.single.specs.Rows.{ThreeRows, ledger_of_rows, ledger_rows_in}

-- the record, and its changes: the ledger and the outcome
module _ where
  pub new : One P.new.Reads.Learnt
  new κs a s t = one_change _

  pub totals : One P.totals.Reads.Learnt
  totals κs a s t = one _

  pub is_ledger_lem : One P.is_ledger.Reads.Learnt
  is_ledger_lem κs a s t = one _

  pub apply_fill : One P.apply_fill.Reads.Learnt
  apply_fill κs a s t = one_change _

  pub deposit : One P.deposit.Reads.Learnt
  deposit κs a s t = one_change _

-- a ledger that is changed in place: the outcome, and the ledger as the call returns
module _ where
  pub apply : OneWith P.apply.Reads.Learnt (λ κs s. s.0.now)
  apply κs a s t x y p q = (one_answer _ x y (ap (λ (c : Change). c.reply) p) (ap (λ (c : Change). c.reply) q), ap (λ (c : Change). c.ledger) (p ∙ sym q))

-- the rows and the totals of a ledger that is lent as these
abbrev Lent : Type 0
Lent = ThreeRows × Totals

-- what the rows and the totals make, and the outcome's reply
abbrev made : Lent → Result (Unit {0}) Refusal → Change
made w r = record { ledger = ledger_of_rows w.0 w.1; reply = reply_of r }

-- one answer, and one content of the rows and the totals
one-made : (d : Change) (v w : Lent) (x y : Result (Unit {0}) Refusal) → made v x ≡ d → made w y ≡ d → (x ≡ y) × (v ≡ w)
one-made d v w x y p q =
    let e : made v x ≡ made w y = p ∙ sym q in (
      one_answer d.reply x y (ap (λ (c : Change). c.reply) p) (ap (λ (c : Change). c.reply) q),
      ap (λ (c : Change). (ledger_rows_in c.ledger, totals_in c.ledger)) e,
    )

-- a ledger that is lent as its rows: a fill with the three rows and the totals after it, and a deposit, which changes the totals alone
module _ where
  pub rows_apply_fill : OneWith R.apply_fill.Reads.Learnt {X = Lent} (λ κs s. ((s.0.now, s.1.0.now, s.1.1.0.now), s.1.1.1.0.now))
  rows_apply_fill κs a s t x y = one-made _ _ _ x y

  pub rows_deposit : OneWith R.deposit.Reads.Learnt (λ κs s. s.1.0.now)
  rows_deposit κs a s t x y p q =
      (one_answer _ x y (ap (λ (c : Change). c.reply) p) (ap (λ (c : Change). c.reply) q), ap (λ (c : Change). totals_in c.ledger) (p ∙ sym q))

-- a ledger that is lent to be read
module _ where
  pub lent_is_ledger : One L.is_ledger.Reads.Learnt
  lent_is_ledger κs a s t = one _

-- The calls that lend a ledger's rows are the listed exception: a promise speaks of what stands in the rows, and not of where they stand. Any two
-- results make the same ledger.
module _ {L : Type 0} {A S : L → Type 0} (Learnt : (κs : L) → A κs → LedgerRows → S κs → Type 0) where
  abbrev OneLedger : Type 0
  OneLedger = (κs : L) (a : A κs) (s t : S κs) (x y : LedgerRows) → Learnt κs a x s → Learnt κs a y t → ledger_in x ≡ ledger_in y

module _ where
  pub lent_of : OneLedger L.of.Reads.Learnt
  lent_of κs a s t x y p q = p ∙ sym q

  pub rows : OneLedger P.rows.Reads.Learnt
  rows κs a s t x y p q = p ∙ sym q

-- what it is worth
module _ where
  pub checked_unrealized_pnl : One W.checked_unrealized_pnl.Reads.Learnt
  checked_unrealized_pnl κs a s t = one_answer _

  pub unrealized_pnl_total : One W.unrealized_pnl_total.Reads.Learnt
  unrealized_pnl_total κs a s t = one_answer _

  pub net_liquidation_value : One W.net_liquidation_value.Reads.Learnt
  net_liquidation_value κs a s t = one_answer _

  pub net_market_exposure : One W.net_market_exposure.Reads.Learnt
  net_market_exposure κs a s t = one_answer _

  pub delta_neutral_check : One W.delta_neutral_check.Reads.Learnt
  delta_neutral_check κs a s t = one_answer _

-- and of a ledger that is lent as its rows
module _ where
  pub rows_checked_unrealized_pnl : One W.rows.checked_unrealized_pnl.Reads.Learnt
  rows_checked_unrealized_pnl κs a s t = one_answer _

  pub rows_unrealized_pnl_total : One W.rows.unrealized_pnl_total.Reads.Learnt
  rows_unrealized_pnl_total κs a s t = one_answer _

  pub rows_net_liquidation_value : One W.rows.net_liquidation_value.Reads.Learnt
  rows_net_liquidation_value κs a s t = one_answer _

  pub rows_net_market_exposure : One W.rows.net_market_exposure.Reads.Learnt
  rows_net_market_exposure κs a s t = one_answer _

  pub rows_delta_neutral_check : One W.rows.delta_neutral_check.Reads.Learnt
  rows_delta_neutral_check κs a s t = one_answer _
