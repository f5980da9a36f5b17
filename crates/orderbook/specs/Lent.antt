-- A book that is lent as four rows, with its counts and its sequence beside them.
use Rattle.std.specs.Prelude.{ℕ, List}
use Rattle.std.specs.Borrow.{Bor}
use denote.Triple.Both.{Both}
use Rattle.levels.specs.Table.{rows}
use Rattle.deltas.specs.declared.Counts.{Counts}
use Rattle.levels.specs.Lent.{levels_in}
use Rattle.orderbook.specs.declared.OrderBook.{OrderBook}
use Rattle.orderbook.specs.declared.lent.BookRows.{BookRows}

-- the book that bid prices, bid quantities, ask prices, ask quantities and the counts make
abbrev pub book_at : List ℕ → List ℕ → List ℕ → List ℕ → Counts → OrderBook
book_at bp bq ap aq c = record { bids = rows bp bq c.bids; asks = rows ap aq c.asks; sequence = c.sequence }

-- the book that is lent to be read
abbrev pub book_in : BookRows → OrderBook
book_in r = record { bids = levels_in r.bids; asks = levels_in r.asks; sequence = r.sequence }

-- the counts of a book
abbrev pub counts_in : OrderBook → Counts
counts_in b = record { bids = b.bids.count; asks = b.asks.count; sequence = b.sequence }

-- a book with other counts beside its rows
abbrev pub with_counts : Counts → OrderBook → OrderBook
with_counts c b = book_at b.bids.prices b.bids.quantities b.asks.prices b.asks.quantities c

-- a row that is lent to a call to be read
abbrev pub Row : Type 0
Row = Both (Bor (List ℕ)) (Bor (List ℕ))

-- the book that rows lent to be read make, with these counts
abbrev pub lent_book : Row → Row → Row → Row → Counts → OrderBook
lent_book bp bq ap aq c = book_at bp.entry.now bq.entry.now ap.entry.now aq.entry.now c
