-- What the calls that read a line give back.
use Rattle.std.proofs.Math.Option.{Option, none, some}
use Rattle.std.specs.Prelude.{[], Result, Ok, Err}
use Rattle.types.specs.Replies.{Reply, done, refused, refuse}
use Rattle.orderbook.specs.declared.OrderBook.{OrderBook}
use Rattle.orderbook.specs.Book.{empty_book}
use Rattle.orderbook.specs.Apply.{Change}
use Rattle.frames.specs.Frames.{Frame, delta, snapshot, book_of, snapshot_of}
use Rattle.types.specs.declared.Refusal.{Refusal}
use Rattle.lines.specs.declared.ReadFrame.{ReadFrame}
use Rattle.lines.specs.declared.ReadFrame.TheVariants as F

-- a line's frame or 12, and a book beside it
pub record Read : Type 0 where
  pub reply : Reply Frame
  pub book : OrderBook

-- read_frame: the frame, beside a snapshot its book, and beside all else the empty one
abbrev pub read_as : Option Frame → Read
read_as none = record { reply = refused 12 []; book = empty_book }
read_as (some (delta d)) = record { reply = done (delta d); book = empty_book }
read_as (some (snapshot s)) = record { reply = done (snapshot s); book = book_of s }

-- what the call gave back: no book beside a delta or a refusal is the empty one
abbrev pub read_of : Result ReadFrame Refusal → Read
read_of (Ok (F.Delta d)) = record { reply = done (delta d); book = empty_book }
read_of (Ok (F.Snapshot b)) = record { reply = done (snapshot (snapshot_of b)); book = b }
read_of (Err r) = record { reply = refuse r; book = empty_book }

-- a line that is no snapshot's: 12, beside the empty book
abbrev pub no_snapshot : Change
no_snapshot = record { book = empty_book; reply = refused 12 [] }

-- read_snapshot: the book of a line that reads as a snapshot
abbrev pub snapshot_read : Option Frame → Change
snapshot_read none = no_snapshot
snapshot_read (some (delta d)) = no_snapshot
snapshot_read (some (snapshot s)) = record { book = book_of s; reply = done tt }

-- what the call gave back
abbrev pub change_read : Result OrderBook Refusal → Change
change_read (Ok b) = record { book = b; reply = done tt }
change_read (Err r) = record { book = empty_book; reply = refuse r }
