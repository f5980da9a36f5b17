-- A ledger that is lent as its three rows, with its totals beside them.
use Rattle.std.specs.Prelude.{ℕ, List, ℤ}
use Rattle.std.specs.Borrow.{Bor}
use denote.Triple.Both.{Both}
use Rattle.holding.specs.declared.lent.PositionRows.{PositionRows}
use Rattle.position.specs.declared.PositionLedger.{PositionLedger}
use Rattle.position.specs.declared.Totals.{Totals}
use Rattle.position.specs.declared.lent.LedgerRows.{LedgerRows}

-- the ledger that quantities, averages, realized profits and the totals make
abbrev pub ledger_at : List ℤ → List ℕ → List ℤ → Totals → PositionLedger
ledger_at quantities averages realized t =
    record { cash = t.cash; commission = t.commission; quantities = quantities; averages = averages; realized = realized }

-- the ledger that positions lent to be read make, with these totals
abbrev pub ledger_of : PositionRows → Totals → PositionLedger
ledger_of r t = ledger_at r.quantities.now r.averages.now r.realized.now t

-- the ledger that is lent to be read
abbrev pub ledger_in : LedgerRows → PositionLedger
ledger_in r = ledger_of r.positions r.totals

-- the totals of a ledger
abbrev pub totals_in : PositionLedger → Totals
totals_in l = record { cash = l.cash; commission = l.commission }

-- a ledger with other totals beside its rows
abbrev pub with_totals : Totals → PositionLedger → PositionLedger
with_totals t l = ledger_at l.quantities l.averages l.realized t

-- a row that is lent to a call to be read, of numbers with a sign or without
abbrev pub Row : Type 0 → Type 0
Row A = Both (Bor (List A)) (Bor (List A))

-- the ledger that rows lent to be read make, with these totals
abbrev pub lent_ledger : Row ℤ → Row ℕ → Row ℤ → Totals → PositionLedger
lent_ledger quantities averages realized t = ledger_at quantities.entry.now averages.entry.now realized.entry.now t
