-- A receiver that is lent: its book as four rows, with its state and counts beside them.
use Rattle.std.specs.Prelude.{ℕ, List}
use Rattle.deltas.specs.declared.Counts.{Counts}
use Rattle.orderbook.specs.Lent.{Row, book_at, book_in, lent_book}
use Rattle.orderbook.specs.declared.lent.BookRows.{BookRows}
use Rattle.receiver.specs.declared.State.{State}
use Rattle.receiver.specs.declared.Receiver.{Receiver}

-- the receiver that bid prices, bid quantities, ask prices, ask quantities, a state and the counts make
abbrev pub receiver_at : List ℕ → List ℕ → List ℕ → List ℕ → State → Counts → Receiver
receiver_at bp bq ap aq s c = record { state = s; book = book_at bp bq ap aq c }

-- the receiver that a book lent to be read makes, with this state
abbrev pub receiver_in : State → BookRows → Receiver
receiver_in s b = record { state = s; book = book_in b }

-- the receiver that rows lent to be read make, with this state and these counts
abbrev pub lent_receiver : Row → Row → Row → Row → State → Counts → Receiver
lent_receiver bp bq ap aq s c = record { state = s; book = lent_book bp bq ap aq c }
