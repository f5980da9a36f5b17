-- Laws of a snapshot's line and the book that it is of: what is known of the line of a book, and when a line is tried as a snapshot's.
use Prim.Native.Nat.{ℕ, ◌+◌, ◌*◌, ◌≤◌}
use mathlib.Core.Bool.{true, false, and-true, false≢true}
use mathlib.Core.Option.{Option, none, some}
use mathlib.Core.Path.{◌≡◌, refl, sym, ap, ◌∙◌}
use mathlib.Core.List.{List}
use native.Mathlib.Omega.{arith}
use borrow.Author.Tests.{le-leb}
use lib.ListN.{length, drop}
use Rattle.types.specs.Replies.{done}
use Rattle.types.specs.Limits.{max_levels, last_sequence}
use Rattle.types.specs.declared.Side.TheVariants.{Bid, Ask}
use Rattle.levels.proofs.Tables.{levels-length, levels-back}
use Rattle.orderbook.specs.declared.OrderBook.{OrderBook}
use Rattle.orderbook.specs.Book.{is_book}
use Rattle.orderbook.specs.Apply.{Change}
use Rattle.orderbook.specs.Inner.Long.{Long}
use Rattle.orderbook.proofs.Books.{a_book}
use Rattle.wire.specs.Wire.{field}
use Rattle.wire.proofs.Bytes.{field_long}
use Rattle.frames.specs.Frames.{Snapshot, Frame, delta, snapshot, book_of, snapshot_of, encode, is_whole, IsWhole}
use Rattle.frames.specs.Decode.{snapshot_in, same, decode}
use Rattle.frames.proofs.Whole.{snapshot_facts, snapshot_length}
use Rattle.frames.proofs.Reading.{same_true, same_self, snapshot_back, reads, only}
use Rattle.lines.specs.Read.{no_snapshot, snapshot_read}
use Rattle.lines.specs.Inner.Tables.{CountsFit}
use Rattle.lines.proofs.Rows.{levels_in_length}

-- ── written ──

pub book_counts : (b : OrderBook) → is_book b ≡ true → (b.bids.count ≤ max_levels) × (b.asks.count ≤ max_levels)
book_counts b h = let k = a_book b h in ((k.side Bid).few, (k.side Ask).few)

pub book-length :
    (b : OrderBook) → Long b → b.bids.count ≤ max_levels → b.asks.count ≤ max_levels →
    length (encode (snapshot (snapshot_of b))) ≡ 25 + 16 * (b.bids.count + b.asks.count)
book-length b w h k =
    let x = levels-length b.bids (record { ps = w.bid-prices; qs = w.bid_quantities }) h in
    let y = levels-length b.asks (record { ps = w.ask-prices; qs = w.ask_quantities }) k in
    omega (arith, snapshot_length (snapshot_of b))

-- ── read ──

-- the snapshot of a snapshot's book is the snapshot
pub snapshot_book : (z : Snapshot) → snapshot_of (book_of z) ≡ z
snapshot_book z = λ i. record { sequence = z.sequence; bids = levels-back z.bids i; asks = levels-back z.asks i }

-- the snapshot that is read has a sequence of 8 bytes, so that it is whole if it is a book
whole_read : (l : List ℕ) → is_whole (snapshot (snapshot_in l)) ≡ is_book (book_of (snapshot_in l))
unfolding is_whole
whole_read l = let h : field 1 8 l ≤ last_sequence = omega (arith, field_long 1 l) in rw (le-leb _ _ h, and-true)

-- the counts of a snapshot's line
counts_read : (l : List ℕ) → IsWhole (snapshot (snapshot_in l)) → l ≡ encode (snapshot (snapshot_in l)) → CountsFit (length l) (field 9 1 l) (field 10 1 l)
counts_read l w e =
    let z = snapshot_in l in
    let f = snapshot_facts z w in
    let b = levels_in_length (field 9 1 l) (drop 22 l) in
    let a = levels_in_length (field 10 1 l) (drop (22 + 16 * field 9 1 l) l) in
    let n = ap length e ∙ snapshot_length z in
    record { few_bids = omega (arith, f.few_bids, b); few_asks = omega (arith, f.few_asks, a); long = omega (arith, n, a, b) }

module _ (l : List ℕ) where
  -- the snapshot in a line is not whole, or has another line
  no_snapshot_lem : (IsWhole (snapshot (snapshot_in l)) → l ≡ encode (snapshot (snapshot_in l)) → ⊥) → no_snapshot ≡ snapshot_read (decode l)
  no_snapshot_lem h = go (decode l) refl
    where
      go : (o : Option Frame) → decode l ≡ o → no_snapshot ≡ snapshot_read o
      go none e = refl
      go (some (delta d)) e = refl
      go (some (snapshot s)) e =
          let w = only l (snapshot s) e in
          let b : snapshot_in l ≡ s = ap snapshot_in w.1 ∙ snapshot_back s (snapshot_facts s w.0) in
          absurd (h (rw b w.0) (rw b w.1))

  pub not_counts : (CountsFit (length l) (field 9 1 l) (field 10 1 l) → ⊥) → no_snapshot ≡ snapshot_read (decode l)
  not_counts h = no_snapshot_lem (λ w e. h (counts_read l w e))

  module _ (b : OrderBook) (in-line : b ≡ book_of (snapshot_in l)) where
    whole-book : is_whole (snapshot (snapshot_in l)) ≡ is_book b
    whole-book = whole_read l ∙ ap is_book (sym in-line)

    same-book : snapshot_in l ≡ snapshot_of b
    same-book = sym (ap snapshot_of in-line ∙ snapshot_book (snapshot_in l))

    pub not-book : is_book b ≡ false → no_snapshot ≡ snapshot_read (decode l)
    not-book h = no_snapshot_lem (λ w e. false≢true (sym h ∙ sym whole-book ∙ w))

    pub not_line : same l (encode (snapshot (snapshot_of b))) ≡ false → no_snapshot ≡ snapshot_read (decode l)
    not_line h =
        no_snapshot_lem (λ w e. false≢true (sym h ∙ ap (λ (z : Snapshot). same l (encode (snapshot z))) (sym same-book) ∙ ap (same l) (sym e) ∙ same_self l))

    pub book-read :
        is_book b ≡ true → same l (encode (snapshot (snapshot_of b))) ≡ true →
        ◌≡◌ {A = Change} (record { book = b; reply = done tt }) (snapshot_read (decode l))
    book-read h k =
        let w : IsWhole (snapshot (snapshot_in l)) = whole-book ∙ h in
        let e = same_true l (encode (snapshot (snapshot_of b))) k ∙ ap (λ (z : Snapshot). encode (snapshot z)) (sym same-book) in
        ap (λ (x : OrderBook). record { book = x; reply = done tt }) in-line ∙ sym (ap snapshot_read (ap decode e ∙ reads (snapshot (snapshot_in l)) w))
