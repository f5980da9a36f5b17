-- What reading and writing are to each other: each frame has one line, and reading it gives the frame. Proved in proofs/Sent.antt.
use Rattle.std.specs.Prelude.{ℕ, ◌≤◌, ◌↔◌, ◌≡◌, List}
use Rattle.std.proofs.Math.Option.{some}
use Rattle.types.specs.Limits.{last_sequence}
use Rattle.types.specs.Replies.{done}
use Rattle.deltas.specs.declared.BookDelta.{BookDelta}
use Rattle.orderbook.specs.declared.OrderBook.{OrderBook}
use Rattle.orderbook.specs.Inner.Long.{Long}
use Rattle.frames.specs.Frames.{Frame, delta, snapshot, book_of, snapshot_of, encode, IsWhole}
use Rattle.frames.specs.Decode.{decode}
use Rattle.frames.specs.Sent.{as_sent, delta_line, snapshot_line}

-- a line reads as a frame exactly where the frame is whole and the line is its own
abbrev pub ReadsExactly : Type 0
ReadsExactly = (l : List ℕ) (f : Frame) → (decode l ≡ some f) ↔ (IsWhole f × (l ≡ encode f))

-- no two whole frames have the same line
abbrev pub OneLine : Type 0
OneLine = (f g : Frame) → IsWhole f → IsWhole g → encode f ≡ encode g → f ≡ g

-- a delta's line, once written, reads as the delta, a Remove's with quantity 0
abbrev pub DeltaReadsBack : Type 0
DeltaReadsBack = (d : BookDelta) (l : List ℕ) → d.sequence ≤ last_sequence → delta_line d ≡ done l → decode l ≡ some (delta (as_sent d))

-- a book's line, once written, reads as its snapshot, whose book it is; the rows of a book have 128 places
abbrev pub BookReadsBack : Type 0
BookReadsBack =
    (b : OrderBook) (l : List ℕ) → Long b → b.sequence ≤ last_sequence → snapshot_line b ≡ done l →
    (decode l ≡ some (snapshot (snapshot_of b))) × (book_of (snapshot_of b) ≡ b)
