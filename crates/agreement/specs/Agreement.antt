-- What a receiver shows of a sender, over the bytes that come. It is stated of what the calls promise and of nothing beside it:
-- `applied` is what apply_delta answers, `heard` is take_line on line after line from `start`, and `encode` is the line that is written.
use Rattle.std.specs.Prelude.{ℕ, zero, suc, ◌+◌, ◌≤◌, ◌≡◌, List, [], ◌∷◌, ◌++◌, map, length}
use Rattle.std.proofs.Math.Option.{Option, none, some}
use Rattle.types.specs.Replies.{Reply, done, refused}
use Rattle.orderbook.specs.declared.OrderBook.{OrderBook}
use Rattle.deltas.specs.declared.BookDelta.{BookDelta}
use Rattle.orderbook.specs.Book.{empty_book}
use Rattle.orderbook.specs.Apply.{applied}
use Rattle.frames.specs.Frames.{Snapshot, Frame, delta, snapshot, snapshot_of, encode}
use Rattle.frames.specs.Decode.{decode}
use Rattle.frames.specs.Sent.{as_sent}
use Rattle.streams.specs.Streams.{lines}
use Rattle.streams.specs.Channel.{Piece, frame_of, IsDamage, stream}
use Rattle.receiver.specs.declared.State.TheVariants.{Live}
use Rattle.receiver.specs.declared.Receiver.{Receiver}
use Rattle.receiver.specs.Turns.{start, held, heard}

-- ── the sender ──

-- a delta that a sender accepted, as it sent it, and its book after it
pub record Entry : Type 0 where
  pub sent : BookDelta
  pub book : OrderBook

-- a delta answered 0 is sent, a Remove's quantity as 0; a refused one is not
abbrev pub entered : Reply (Unit {0}) → BookDelta → OrderBook → List Entry → List Entry
entered (done u) d b es = record { sent = as_sent d; book = b } ∷ es
entered (refused n vs) d b es = es

-- what comes of the deltas offered, one after the other, to a sender that has this book
unfoldable pub history : OrderBook → List BookDelta → List Entry
history b [] = []
history b (d ∷ ds) = entered (applied b d).reply d (applied b d).book (history (applied b d).book ds)

-- the book after n of the deltas accepted
abbrev pub book_past : OrderBook → List Entry → ℕ → OrderBook
book_past b es zero = b
book_past b [] (suc n) = b
book_past b (e ∷ es) (suc n) = book_past e.book es n

-- the delta sent at a place, from 0 on
abbrev pub delta_at : List Entry → ℕ → Option BookDelta
delta_at [] n = none
delta_at (e ∷ es) zero = some e.sent
delta_at (e ∷ es) (suc n) = delta_at es n

-- older than or of the number n, or damaged
abbrev pub Old : ℕ → Option Frame → Type 0
Old n none = Unit {0}
Old n (some (delta d)) = d.sequence ≤ n
Old n (some (snapshot s)) = s.sequence ≤ n

-- only such lines
abbrev pub AllOld : ℕ → List (List ℕ) → Type 0
AllOld n [] = Unit {0}
AllOld n (l ∷ ls) = Old n (decode l) × AllOld n ls

-- a sender that starts from the empty book at 0 and is offered these deltas, whatever they are
module _ (ds : List BookDelta) where
  -- how many it accepts
  abbrev pub count : ℕ
  count = length (history empty_book ds)

  -- its book after delta n, the empty one for 0
  abbrev pub book_after : ℕ → OrderBook
  book_after n = book_past empty_book (history empty_book ds) n

  -- a frame that it sends at some time: a delta that it accepted, or a snapshot of its book after any number of them
  abbrev pub Sends : Frame → Type 0
  Sends (delta d) = (n : ℕ) × (delta_at (history empty_book ds) n ≡ some d)
  Sends (snapshot s) = (n : ℕ) × (n ≤ count) × (s ≡ snapshot_of (book_after n))

  -- ── the channel ──

  -- any of its frames, in any order, any of them missing or there again, each as sent, or with a digit replaced, its end cut off or its line feed lost
  abbrev pub Comes : List Piece → Type 0
  Comes [] = Unit {0}
  Comes (p ∷ ps) = IsDamage p × Sends (frame_of p) × Comes ps

  -- lines that have arrived: the first ones, as many as they are, of the stream that comes
  pub record Arrived (ls : List (List ℕ)) : Type 0 where
    pub pieces : List Piece
    pub rest : List (List ℕ)
    pub from_sender : Comes pieces
    pub split : lines (stream pieces) ≡ ls ++ rest

  -- frames that it sends
  abbrev pub AllSends : List Frame → Type 0
  AllSends [] = Unit {0}
  AllSends (f ∷ fs) = Sends f × AllSends fs

  -- Lines do arrive: any frames that it sends, each as sent, arrive as their lines.
  abbrev pub Undamaged : Type 0
  Undamaged = (fs : List Frame) → AllSends fs → Arrived (map encode fs)

  -- ── what the receiver shows ──

  -- live at number n, with the sender's book after delta n
  pub record LiveAt (r : Receiver) (n : ℕ) : Type 0 where
    pub live : r.state ≡ Live
    pub number : held r ≡ n
    pub book : r.book ≡ book_after n

  -- (a) Whatever has arrived, the book held is the sender's after the delta of the number held, and the sender got so far. It is so while
  -- live, and while waiting too.
  abbrev pub Shown : Type 0
  Shown = (ls : List (List ℕ)) → Arrived ls → ((heard start ls).book ≡ book_after (held (heard start ls))) × (held (heard start ls) ≤ count)

-- (b) The number held never falls, whatever is heard, from any record on.
abbrev pub NeverFalls : Type 0
NeverFalls = (r : Receiver) (ls : List (List ℕ)) → held r ≤ held (heard r ls)

module _ (ds : List BookDelta) where
  -- (c) A snapshot of the sender's, arriving whole and not older than the number held, makes the receiver live at its number.
  abbrev pub Loaded : Type 0
  Loaded =
      (ls : List (List ℕ)) (s : Snapshot) → Arrived ds (ls ++ encode (snapshot s) ∷ []) → Sends ds (snapshot s) → held (heard start ls) ≤ s.sequence →
      LiveAt ds (heard start (ls ++ encode (snapshot s) ∷ [])) s.sequence

  -- (d) A live receiver, then only older or damaged lines: it is the same receiver, live at the same number with the same book. The first of
  -- such lines are such lines too, so it is so after each of them.
  abbrev pub StaysLive : Type 0
  StaysLive =
      (ls ms : List (List ℕ)) → Arrived ds (ls ++ ms) → (heard start ls).state ≡ Live → AllOld (held (heard start ls)) ms →
      (heard start (ls ++ ms) ≡ heard start ls) × LiveAt ds (heard start (ls ++ ms)) (held (heard start ls))

  -- And then the sender's next delta arriving whole: it is live at that delta's number.
  abbrev pub KeptUp : Type 0
  KeptUp =
      (ls ms : List (List ℕ)) (d : BookDelta) → Arrived ds (ls ++ (ms ++ encode (delta d) ∷ [])) → Sends ds (delta d) → (heard start ls).state ≡ Live →
      d.sequence ≡ held (heard start ls) + 1 → AllOld (held (heard start ls)) ms → LiveAt ds (heard start (ls ++ (ms ++ encode (delta d) ∷ []))) d.sequence
