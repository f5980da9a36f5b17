-- A receiver that hears only what the sender sent, or damage, holds the sender's book after the delta of its number.
use Prim.Native.Nat.{ℕ, suc, ◌+◌, ◌≤◌}
use mathlib.Core.Option.{Option, none, some}
use mathlib.Core.Path.{◌≡◌, refl, sym, ap, ◌∙◌}
use mathlib.Core.List.{List, [], ◌∷◌, ◌++◌, append-nil, map, map-append, tail}
use native.Mathlib.Omega.{arith}
use native.Mathlib.Numerals.{add-one}
use Rattle.types.specs.Replies.{done}
use Rattle.orderbook.specs.declared.OrderBook.{OrderBook}
use Rattle.deltas.specs.declared.BookDelta.{BookDelta}
use Rattle.orderbook.specs.Book.{empty_book}
use Rattle.orderbook.specs.Apply.{Change, applied}
use Rattle.frames.specs.Frames.{Snapshot, Frame, delta, snapshot, book_of, encode}
use Rattle.frames.specs.Decode.{decode}
use Rattle.streams.specs.Streams.{lines}
use Rattle.streams.specs.Channel.{Piece, sent, replaced, cut, joined, frame_of, Pieces, stream, seen}
use Rattle.frames.proofs.Reading.{only}
use Rattle.streams.proofs.Channel.{read_stream}
use Rattle.receiver.specs.declared.Receiver.{Receiver}
use Rattle.receiver.specs.Turns.{start, taken, heard}
use Rattle.receiver.proofs.Kept.{by-line}
use Rattle.agreement.specs.Agreement.{history, count, book_after, Sends, Comes, Arrived, AllSends}
use Rattle.agreement.proofs.Senders.{all_go, place_below, own, delta-number, sends_whole}

-- ── frames that come as sent ──

seen_sent : (fs : List Frame) → seen (map sent fs) ≡ map some fs
seen_sent [] = refl
seen_sent (f ∷ fs) = ap (λ (os : List (Option Frame)). some f ∷ os) (seen_sent fs)

-- lines that read as frames are their lines
lines_of : (fs : List Frame) (ls : List (List ℕ)) → map decode ls ≡ map some fs → ls ≡ map encode fs
lines_of [] [] e = refl
lines_of [] (l ∷ ls) e = let z : ◌≡◌ {A = ℕ} 0 1 = cc in absurd (omega arith)
lines_of (f ∷ fs) [] e = let z : ◌≡◌ {A = ℕ} 0 1 = cc in absurd (omega arith)
lines_of (f ∷ fs) (l ∷ ls) e =
    let p : decode l ≡ some f = cc in
    let q : map decode ls ≡ map some fs = cc in
    let u : l ≡ encode f = (only l f p).1 in
    let v : ls ≡ map encode fs = lines_of fs ls q in
    cc

module _ (ds : List BookDelta) where
  -- ── what is read ──

  -- damage, or a frame that the sender sent
  abbrev pub Read : List (Option Frame) → Type 0
  Read [] = Unit {0}
  Read (none ∷ os) = Read os
  Read (some f ∷ os) = Sends ds f × Read os

  read_tail : (os : List (Option Frame)) → Read os → Read (tail os)
  read_tail [] h = tt
  read_tail (none ∷ os) h = h
  read_tail (some f ∷ os) h = h.1

  pub read_front : (os us : List (Option Frame)) → Read (os ++ us) → Read os
  read_front [] us h = tt
  read_front (none ∷ os) us h = read_front os us h
  read_front (some f ∷ os) us h = (h.0, read_front os us h.1)

  seen_read : (ps : List Piece) → Comes ds ps → Read (seen ps)
  seen_read [] h = tt
  seen_read (sent f ∷ ps) h = (h.1, seen_read ps h.2)
  seen_read (replaced f i c ∷ ps) h = seen_read ps h.2
  seen_read (cut f n ∷ ps) h = seen_read ps h.2
  seen_read (joined f ∷ ps) h = read_tail (seen ps) (seen_read ps h.2)

  whole_pieces : (ps : List Piece) → Comes ds ps → Pieces ps
  whole_pieces [] h = tt
  whole_pieces (p ∷ ps) h = (h.0, sends_whole ds (frame_of p) h.1, whole_pieces ps h.2)

  sent_come : (fs : List Frame) → AllSends ds fs → Comes ds (map sent fs)
  sent_come [] h = tt
  sent_come (f ∷ fs) h = (tt, h.0, sent_come fs h.1)

  pub undamaged_lines : (fs : List Frame) → AllSends ds fs → Arrived ds (map encode fs)
  undamaged_lines fs h =
      let ps = map sent fs in
      let c = sent_come fs h in
      record {
        pieces = ps;
        rest = [];
        from_sender = c;
        split = lines_of fs (lines (stream ps)) (read_stream ps (whole_pieces ps c) ∙ seen_sent fs) ∙ sym (append-nil (map encode fs));
      }

  pub arrived_read : (ls : List (List ℕ)) → Arrived ds ls → Read (map decode ls)
  arrived_read ls a =
      let e : seen a.pieces ≡ map decode ls ++ map decode a.rest =
      sym (read_stream a.pieces (whole_pieces a.pieces a.from_sender)) ∙ ap (map decode) a.split ∙ map-append decode ls a.rest in
      read_front (map decode ls) (map decode a.rest) (rw e at (seen_read a.pieces a.from_sender))

  -- ── what is held ──

  -- the sender's book after the delta of its number
  pub record Follows (b : OrderBook) : Type 0 where
    pub same : b ≡ book_after ds b.sequence
    pub so_far : b.sequence ≤ count ds

  follows_own : (n : ℕ) → n ≤ count ds → (b : OrderBook) → b ≡ book_after ds n → Follows b
  follows_own n h b e =
      let k : b.sequence ≡ n = ap (λ (x : OrderBook). x.sequence) e ∙ (own ds n h).number in
      record { same = e ∙ ap (book_after ds) (sym k); so_far = omega arith }

  -- a snapshot that the sender sent is of its own book, and numbered as it is
  pub snapshot_own : (s : Snapshot) → (t : Sends ds (snapshot s)) → (book_of s ≡ book_after ds t.0) × (s.sequence ≡ t.0)
  snapshot_own s t =
      let o = own ds t.0 t.1 in
      (ap book_of t.2 ∙ o.back, ap (λ (x : Snapshot). x.sequence) t.2 ∙ o.number)

  -- its next delta makes of the book held what it made of its own
  pub next_own : (b : OrderBook) → Follows b → (d : BookDelta) → Sends ds (delta d) → d.sequence ≡ b.sequence + 1
      → (applied b d ≡ record { book = book_after ds d.sequence; reply = done tt }) × (d.sequence ≤ count ds)
  next_own b f d t e =
      let n = t.0 in
      let k : d.sequence ≡ n + 1 = delta-number ds n d t.1 in
      let m : b.sequence ≡ n = omega arith in
      let u : d.sequence ≡ suc n = k ∙ add-one n in (
        ap (λ (x : OrderBook). applied x d) (f.same ∙ ap (book_after ds) m) ∙ (all_go ds empty_book n d t.1).goes
            ∙ ap (λ (x : ℕ). record { book = book_after ds x; reply = done tt }) (sym u),
        omega (arith, place_below (history empty_book ds) n d t.1),
      )

  line_sent : (o : Option Frame) (os : List (Option Frame)) (f : Frame) → Read (o ∷ os) → o ≡ some f → Sends ds f
  line_sent none os f h e = let z : ◌≡◌ {A = ℕ} 0 1 = cc in absurd (omega arith)
  line_sent (some g) os f h e = let same : g ≡ f = cc in rw same at h.0

  read_rest : (o : Option Frame) (os : List (Option Frame)) → Read (o ∷ os) → Read os
  read_rest none os h = h
  read_rest (some g) os h = h.1

  follows_line : (r : Receiver) (l : List ℕ) (os : List (Option Frame)) → Read (decode l ∷ os) → Follows r.book → Follows (taken r l).receiver.book
  follows_line r l os h f =
      by-line Follows r f l
      (λ s e _. let t = line_sent (decode l) os (snapshot s) h e in follows_own t.0 t.1 (book_of s) (snapshot_own s t).0)
      (λ d e k _.
      let g = next_own r.book f d (line_sent (decode l) os (delta d) h e) k in
      follows_own d.sequence g.1 (applied r.book d).book (ap (λ (c : Change). c.book) g.0))

  pub follows : (r : Receiver) (ls : List (List ℕ)) → Read (map decode ls) → Follows r.book → Follows (heard r ls).book
  unfolding heard
  follows r [] h f = f
  follows r (l ∷ ls) h f = follows (taken r l).receiver ls (read_rest (decode l) (map decode ls) h) (follows_line r l (map decode ls) h f)

  pub follows_start : (ls : List (List ℕ)) → Read (map decode ls) → Follows (heard start ls).book
  follows_start ls h = follows start ls h (record { same = refl; so_far = omega arith })
