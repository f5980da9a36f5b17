-- The receiver's rules: what it makes of a line, and of many.
use Rattle.std.specs.Prelude.{ℕ, ◌+◌, Bool, cond, List, [], ◌∷◌, eqb, leb, ltb}
use Rattle.std.proofs.Math.Option.{Option, none, some}
use Rattle.types.specs.Replies.{Reply, done, refused}
use Rattle.types.specs.Answers.{reply_of}
use Rattle.orderbook.specs.declared.OrderBook.{OrderBook}
use Rattle.deltas.specs.declared.BookDelta.{BookDelta}
use Rattle.orderbook.specs.Book.{is_book, empty_book}
use Rattle.orderbook.specs.Apply.{applied}
use Rattle.frames.specs.Frames.{Frame, delta, snapshot, book_of}
use Rattle.frames.specs.Decode.{decode}
use Rattle.receiver.specs.declared.State.{State}
use Rattle.receiver.specs.declared.State.TheVariants.{Waiting, Live}
use Rattle.receiver.specs.declared.Receiver.{Receiver}
use Rattle.receiver.specs.declared.Taken.{Taken}

-- a receiver holds a book
abbrev pub is_receiver : Receiver → Bool
is_receiver r = is_book r.book

-- it starts waiting, empty, at 0
abbrev pub start : Receiver
start = record { state = Waiting; book = empty_book }

-- the number held is the book's sequence
abbrev pub held : Receiver → ℕ
held r = r.book.sequence

-- a receiver and the reply beside it
pub record Turn : Type 0 where
  pub receiver : Receiver
  pub reply : Reply (Unit {0})

-- what a call gave back
abbrev pub turn_of : Taken → Turn
turn_of r = record { receiver = r.receiver; reply = reply_of r.outcome }

-- live with a book: 0
abbrev pub live_at : OrderBook → Turn
live_at b = record { receiver = record { state = Live; book = b }; reply = done tt }

-- a numbered answer, and the receiver as it was
abbrev pub stays : Receiver → ℕ → Turn
stays r n = record { receiver = r; reply = refused n [] }

-- a numbered answer, and the receiver waiting with the book it holds
abbrev pub waits : Receiver → ℕ → Turn
waits r n = record { receiver = record { state = Waiting; book = r.book }; reply = refused n [] }

-- a snapshot is loaded if it is not older while waiting, or newer while live
abbrev pub loads : State → ℕ → ℕ → Bool
loads Waiting held s = leb held s
loads Live held s = ltb held s

-- a snapshot of this book: loaded, or 14
abbrev pub snapshot_turn : Receiver → OrderBook → Turn
snapshot_turn r b = cond (loads r.state (held r) b.sequence) (live_at b) (stays r 14)

-- the next delta: applied, or 17 and waiting if the book refuses it
abbrev pub next_turn : Receiver → Reply (Unit {0}) → OrderBook → Turn
next_turn r (done u) b = live_at b
next_turn r (refused n vs) b = waits r 17

-- a delta: 16 while waiting; while live 14 at or below the number held, the next is applied, beyond is 15 and waiting
abbrev pub delta_turn : State → Receiver → BookDelta → Turn
delta_turn Waiting r d = stays r 16
delta_turn Live r d =
    cond (leb d.sequence (held r)) (stays r 14)
    (cond (eqb d.sequence (held r + 1)) (next_turn r (applied r.book d).reply (applied r.book d).book) (waits r 15))

-- a damaged line is 12 and changes nothing
abbrev pub damaged_turn : Receiver → Turn
damaged_turn r = stays r 12

-- a line's turn, by what it reads as
unfoldable pub turn : Receiver → Option Frame → Turn
turn r none = damaged_turn r
turn r (some (snapshot s)) = snapshot_turn r (book_of s)
turn r (some (delta d)) = delta_turn r.state r d

-- a line handed to any record: 1 if it is no receiver
unfoldable pub taken : Receiver → List ℕ → Turn
taken r l = cond (is_receiver r) (turn r (decode l)) (stays r 1)

-- the turns of lines, one after the other
unfoldable pub turns : Receiver → List (List ℕ) → List Turn
turns r [] = []
turns r (l ∷ ls) = taken r l ∷ turns (taken r l).receiver ls

-- the receiver after them
unfoldable pub heard : Receiver → List (List ℕ) → Receiver
heard r [] = r
heard r (l ∷ ls) = heard (taken r l).receiver ls
