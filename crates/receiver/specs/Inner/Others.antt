-- The turn of a line that is no delta, by what `read_snapshot` gave back, and that of the next delta.
use Rattle.types.specs.Replies.{Reply, done, refused}
use Rattle.orderbook.specs.declared.OrderBook.{OrderBook}
use Rattle.deltas.specs.declared.BookDelta.{BookDelta}
use Rattle.orderbook.specs.Apply.{Change, applied}
use Rattle.receiver.specs.declared.Receiver.{Receiver}
use Rattle.receiver.specs.Turns.{Turn, snapshot_turn, next_turn}

-- a snapshot's turn, or the refusal and the receiver as it was
abbrev pub other_by : Receiver → Reply (Unit {0}) → OrderBook → Turn
other_by r (done u) b = snapshot_turn r b
other_by r (refused n vs) b = record { receiver = r; reply = refused n vs }

-- a line that is no delta, by what it read as
abbrev pub other_turn : Receiver → Change → Turn
other_turn r c = other_by r c.reply c.book

-- the next delta, by what the book makes of it
abbrev pub next_by : Receiver → BookDelta → Turn
next_by r d = next_turn r (applied r.book d).reply (applied r.book d).book
