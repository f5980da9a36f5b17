-- The lines that the writers write.
use Rattle.std.specs.Prelude.{ℕ, List}
use Rattle.types.specs.Replies.{Reply, done, if_within}
use Rattle.deltas.specs.declared.BookDelta.{BookDelta}
use Rattle.deltas.specs.declared.DeltaAction.{DeltaAction}
use Rattle.deltas.specs.declared.DeltaAction.TheVariants.{Set, Remove}
use Rattle.deltas.specs.Delta.{delta_fits}
use Rattle.orderbook.specs.declared.OrderBook.{OrderBook}
use Rattle.orderbook.specs.Book.{of_book}
use Rattle.frames.specs.Frames.{delta, snapshot, snapshot_of, encode}

-- a Remove's quantity is written as 0
abbrev pub sent_quantity : DeltaAction → ℕ → ℕ
sent_quantity Set q = q
sent_quantity Remove q = 0

-- a delta as it is sent
abbrev pub as_sent : BookDelta → BookDelta
as_sent d =
    record { side = d.side; price = d.price; quantity = sent_quantity d.action d.quantity; action = d.action; sequence = d.sequence }

-- a delta's line: 2 if a number is outside its limits, a Remove's quantity being no matter
unfoldable pub delta_line : BookDelta → Reply (List ℕ)
delta_line d = if_within (delta_fits d.action d.price d.quantity) (done (encode (delta (as_sent d))))

-- the line of a book's snapshot: 1 if the record is no book
unfoldable pub snapshot_line : OrderBook → Reply (List ℕ)
snapshot_line b = of_book b (done (encode (snapshot (snapshot_of b))))
