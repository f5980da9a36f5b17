-- What a delta makes of a book, and what clear and remove_all make of it.
use Rattle.std.specs.Prelude.{ℕ, ◌+◌, cond, ◌&&◌, List, [], ◌∷◌, eqb, leb, ltb, ℤ, pos, length}
use Rattle.types.specs.Limits.{max_levels, last_sequence}
use Rattle.types.specs.Replies.{Reply, done, refused}
use Rattle.types.specs.Answers.{reply_of}
use Rattle.types.specs.declared.Side.{Side}
use Rattle.types.specs.declared.Side.TheVariants.{Bid, Ask}
use Rattle.types.specs.declared.PriceLevel.{PriceLevel}
use Rattle.levels.specs.Table.{level, table}
use Rattle.levels.specs.Change.{set_level, remove_level}
use Rattle.sides.specs.Best.{best_of, is_apart}
use Rattle.deltas.specs.declared.BookDelta.{BookDelta}
use Rattle.deltas.specs.declared.DeltaAction.{DeltaAction}
use Rattle.deltas.specs.declared.DeltaAction.TheVariants.{Set, Remove}
use Rattle.deltas.specs.Delta.{delta_fits}
use Rattle.orderbook.specs.declared.OrderBook.{OrderBook}
use Rattle.orderbook.specs.declared.Applied.{Applied}
use Rattle.orderbook.specs.Book.{is_book, bids_of, asks_of, empty_book}

-- a book, and the reply beside it
pub record Change : Type 0 where
  pub book : OrderBook
  pub reply : Reply (Unit {0})

-- what a call gave back
abbrev pub change_of : Applied → Change
change_of r = record { book = r.book; reply = reply_of r.outcome }

-- a refusal gives back the book it was handed
abbrev pub kept : OrderBook → ℕ → List ℤ → Change
kept b n vs = record { book = b; reply = refused n vs }

-- a side's levels after the action
abbrev pub acted : DeltaAction → Side → PriceLevel → List PriceLevel → List PriceLevel
acted Set s l ls = set_level s l ls
acted Remove s l ls = remove_level l.price ls

-- a side's levels after a delta, which changes its own side
abbrev pub after_delta : Side → Side → BookDelta → List PriceLevel → List PriceLevel
after_delta Bid Bid d ls = acted d.action Bid (level d.price d.quantity) ls
after_delta Bid Ask d ls = ls
after_delta Ask Bid d ls = ls
after_delta Ask Ask d ls = acted d.action Ask (level d.price d.quantity) ls

-- the best price of a side, 0 if it has none
abbrev pub best_price : List PriceLevel → ℕ
best_price [] = 0
best_price (l ∷ ls) = l.price

-- the book with these levels: 5 with both prices if best bid would reach or pass best ask, 6 if a side would have more than 128 levels
abbrev pub placed : OrderBook → ℕ → List PriceLevel → List PriceLevel → Change
placed b sequence bids asks =
    cond (is_apart (best_of bids) (best_of asks))
    (cond (leb (length bids) max_levels && leb (length asks) max_levels)
    (record { book = record { bids = table bids; asks = table asks; sequence = sequence }; reply = done tt })
    (kept b 6 []))
    (kept b 5 (pos (best_price bids) ∷ pos (best_price asks) ∷ []))

-- a delta to a book: 2 for its limits, 3 after the last sequence number, 4 with expected and got unless it is the next; then its levels are placed
unfoldable pub tried : OrderBook → BookDelta → Change
tried b d =
    cond (delta_fits d.action d.price d.quantity)
    (cond (ltb b.sequence last_sequence)
    (cond (eqb d.sequence (b.sequence + 1))
    (placed b d.sequence (after_delta Bid d.side d (bids_of b)) (after_delta Ask d.side d (asks_of b)))
    (kept b 4 (pos (b.sequence + 1) ∷ pos d.sequence ∷ [])))
    (kept b 3 []))
    (kept b 2 [])

-- a delta to any record: 1 if it is no book
unfoldable pub applied : OrderBook → BookDelta → Change
applied b d = cond (is_book b) (tried b d) (kept b 1 [])

-- clear empties both sides and sets sequence 0; 1 if the record is no book
unfoldable pub cleared : OrderBook → Change
cleared b = cond (is_book b) (record { book = empty_book; reply = done tt }) (kept b 1 [])

-- a book with one side empty and its sequence kept
abbrev pub without : Side → OrderBook → OrderBook
without Bid b = record { bids = table []; asks = b.asks; sequence = b.sequence }
without Ask b = record { bids = b.bids; asks = table []; sequence = b.sequence }

-- remove_all empties one side and keeps the sequence; 1 if the record is no book
unfoldable pub side_cleared : Side → OrderBook → Change
side_cleared s b = cond (is_book b) (record { book = without s b; reply = done tt }) (kept b 1 [])
