-- The frames of the feed: their bytes, their lines, and which of them are whole.
use Rattle.std.specs.Prelude.{ℕ, Bool, true, ◌&&◌, ◌≡◌, List, [], ◌∷◌, ◌++◌, eqb, leb, length}
use Rattle.types.specs.Limits.{is_price, is_quantity, last_sequence}
use Rattle.types.specs.Named.{side_number}
use Rattle.types.specs.declared.PriceLevel.{PriceLevel}
use Rattle.levels.specs.Table.{levels, table}
use Rattle.deltas.specs.declared.BookDelta.{BookDelta}
use Rattle.deltas.specs.declared.DeltaAction.{DeltaAction}
use Rattle.deltas.specs.declared.DeltaAction.TheVariants.{Set, Remove}
use Rattle.deltas.specs.Delta.{action_number}
use Rattle.orderbook.specs.declared.OrderBook.{OrderBook}
use Rattle.orderbook.specs.Book.{is_book}
use Rattle.wire.specs.Wire.{be, digits_of, check_byte, line}

-- a book's sequence and the levels of its sides, best first
pub record Snapshot : Type 0 where
  pub sequence : ℕ
  pub bids : List PriceLevel
  pub asks : List PriceLevel

-- a frame is a delta or a snapshot
pub data Frame : Type 0 where
  delta : BookDelta → Frame
  snapshot : Snapshot → Frame

-- levels as price 4 and quantity 4, and the bytes that follow
abbrev pub level_bytes : List PriceLevel → List ℕ → List ℕ
level_bytes [] after = after
level_bytes (l ∷ ls) after = be 4 l.price (be 4 l.quantity (level_bytes ls after))

-- a frame's bytes but the last, the check byte.
-- Delta: 01, side (00 bid, 01 ask), action (00 Set, 01 Remove), price 4, quantity 4, sequence 8.
-- Snapshot: 02, sequence 8, bid count, ask count, bids then asks
abbrev pub bytes_of : Frame → List ℕ
bytes_of (delta d) =
    be 1 1 (be 1 (side_number d.side) (be 1 (action_number d.action) (be 4 d.price (be 4 d.quantity (be 8 d.sequence [])))))
bytes_of (snapshot s) = be 1 2 (be 8 s.sequence (be 1 (length s.bids) (be 1 (length s.asks) (level_bytes s.bids (level_bytes s.asks [])))))

-- a frame's line, its line feed included
unfoldable pub encode : Frame → List ℕ
encode f = line (bytes_of f)

-- the digits of a frame's line, without the line feed
unfoldable pub digits : Frame → List ℕ
digits f = digits_of (bytes_of f ++ check_byte (bytes_of f) ∷ [])

-- the book that a snapshot is of
abbrev pub book_of : Snapshot → OrderBook
book_of s = record { bids = table s.bids; asks = table s.asks; sequence = s.sequence }

-- the snapshot of a book
abbrev pub snapshot_of : OrderBook → Snapshot
snapshot_of b = record { sequence = b.sequence; bids = levels b.bids; asks = levels b.asks }

-- a delta's quantity is within the limits, and 0 in a Remove
abbrev pub quantity_fits : DeltaAction → ℕ → Bool
quantity_fits Set q = is_quantity q
quantity_fits Remove q = eqb q 0

-- a delta's numbers are within their limits; a snapshot is a book
unfoldable pub is_whole : Frame → Bool
is_whole (delta d) = is_price d.price && (quantity_fits d.action d.quantity && leb d.sequence last_sequence)
is_whole (snapshot s) = is_book (book_of s) && leb s.sequence last_sequence

-- a whole frame
abbrev pub IsWhole : Frame → Type 0
IsWhole f = is_whole f ≡ true
