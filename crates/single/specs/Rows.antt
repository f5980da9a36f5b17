-- A book that is lent as its rows: what a call leaves of it is one content of the four rows and one record of counts. A ledger so too: three rows
-- and its totals.
use Rattle.std.specs.Prelude.{ℕ, List, ℤ}
use Rattle.deltas.specs.declared.Counts.{Counts}
use Rattle.orderbook.specs.declared.OrderBook.{OrderBook}
use Rattle.orderbook.specs.Lent.{book_at}
use Rattle.position.specs.declared.PositionLedger.{PositionLedger}
use Rattle.position.specs.declared.Totals.{Totals}
use Rattle.position.specs.Lent.{ledger_at}

-- the four rows
abbrev pub Rows : Type 0
Rows = List ℕ × List ℕ × List ℕ × List ℕ

-- the book that they make with these counts
abbrev pub book_of_rows : Rows → Counts → OrderBook
book_of_rows w c = book_at w.0 w.1 w.2 w.3 c

-- the rows of a book
abbrev pub rows_in : OrderBook → Rows
rows_in b = (b.bids.prices, b.bids.quantities, b.asks.prices, b.asks.quantities)

-- a ledger's three
abbrev pub ThreeRows : Type 0
ThreeRows = List ℤ × List ℕ × List ℤ

-- the ledger that they make with these totals
abbrev pub ledger_of_rows : ThreeRows → Totals → PositionLedger
ledger_of_rows w t = ledger_at w.0 w.1 w.2 t

-- the rows of a ledger
abbrev pub ledger_rows_in : PositionLedger → ThreeRows
ledger_rows_in l = (l.quantities, l.averages, l.realized)
