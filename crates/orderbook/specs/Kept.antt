-- What every change of a book keeps: an accepted one leaves a book again, and a refused one gives back the very record that it was handed.
-- Proved in proofs/Kept.antt.
use Rattle.std.specs.Prelude.{ℕ, ◌+◌, ◌≡◌, true, List, ℤ}
use Rattle.types.specs.Replies.{done, refused}
use Rattle.types.specs.declared.Side.{Side}
use Rattle.deltas.specs.declared.BookDelta.{BookDelta}
use Rattle.deltas.specs.declared.DeltaAction.TheVariants.{Remove}
use Rattle.orderbook.specs.declared.OrderBook.{OrderBook}
use Rattle.orderbook.specs.Book.{is_book}
use Rattle.orderbook.specs.Apply.{Change, applied, cleared, side_cleared}

-- a change of b, where `next` is the sequence that an accepted one leaves
pub record Keeps (b : OrderBook) (next : ℕ) (c : Change) : Type 0 where
  pub book : c.reply ≡ done tt → is_book c.book ≡ true
  pub number : c.reply ≡ done tt → c.book.sequence ≡ next
  pub same : (n : ℕ) (vs : List ℤ) → c.reply ≡ refused n vs → c.book ≡ b

-- apply_delta raises the sequence by one
abbrev pub DeltaKeeps : Type 0
DeltaKeeps = (b : OrderBook) (d : BookDelta) → Keeps b (b.sequence + 1) (applied b d)

-- clear sets it to 0
abbrev pub ClearKeeps : Type 0
ClearKeeps = (b : OrderBook) → Keeps b 0 (cleared b)

-- remove_all leaves it
abbrev pub SideKeeps : Type 0
SideKeeps = (s : Side) (b : OrderBook) → Keeps b b.sequence (side_cleared s b)

-- a Remove's quantity does not matter, whatever its size
abbrev pub RemoveOfAny : Type 0
RemoveOfAny =
    (b : OrderBook) (s : Side) (price n q r : ℕ) →
    applied b (record { side = s; price = price; quantity = q; action = Remove; sequence = n }) ≡
    applied b (record { side = s; price = price; quantity = r; action = Remove; sequence = n })
