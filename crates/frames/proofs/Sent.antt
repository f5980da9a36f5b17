-- What is written reads back.
use Prim.Native.Nat.{ℕ, ◌≤◌}
use mathlib.Core.Bool.{Bool, true, false, ◌&&◌, and-true}
use mathlib.Core.Option.{some}
use mathlib.Core.Path.{◌≡◌, refl, sym, ap, ◌∙◌}
use native.Mathlib.Omega.{arith}
use borrow.Author.Tests.{le-leb}
use Rattle.types.specs.Limits.{is_price, is_quantity, last_sequence}
use Rattle.types.specs.declared.Side.TheVariants.{Bid, Ask}
use Rattle.levels.proofs.Tables.{table-back}
use Rattle.deltas.specs.declared.BookDelta.{BookDelta}
use Rattle.deltas.specs.declared.DeltaAction.{DeltaAction}
use Rattle.deltas.specs.declared.DeltaAction.TheVariants.{Set, Remove}
use Rattle.deltas.specs.Delta.{delta_fits}
use Rattle.orderbook.specs.declared.OrderBook.{OrderBook}
use Rattle.orderbook.specs.Book.{is_book}
use Rattle.orderbook.specs.Inner.Long.{Long}
use Rattle.orderbook.proofs.Books.{a_book}
use Rattle.frames.specs.Frames.{delta, snapshot, book_of, snapshot_of, encode, is_whole, IsWhole}
use Rattle.frames.specs.Decode.{decode}
use Rattle.frames.specs.Sent.{sent_quantity, as_sent}
use Rattle.frames.specs.OneLine.{ReadsExactly, OneLine, DeltaReadsBack, BookReadsBack}
use Rattle.frames.proofs.Whole.{emptied, whole-delta}
use Rattle.frames.proofs.Reading.{reads, only}
use Rattle.frames.proofs.Writing.{delta-line, delta_refused, snapshot_line_lem, snapshot_refused}

pub reads_exactly : ReadsExactly
reads_exactly l f = (only l f, λ h. ap decode h.1 ∙ reads f h.0)

pub one_line : OneLine
one_line f g w v e = let h = sym (reads f w) ∙ ap decode e ∙ reads g v in cc

-- a delta within the limits is whole as it is sent
pub sent_whole : (d : BookDelta) → d.sequence ≤ last_sequence → delta_fits d.action d.price d.quantity ≡ true → IsWhole (delta (as_sent d))
sent_whole d h k = whole-delta (as_sent d) h ∙ go d.action d.price d.quantity k
  where
    go : (a : DeltaAction) (p q : ℕ) → delta_fits a p q ≡ true → delta_fits a p (sent_quantity a q) && emptied a (sent_quantity a q) ≡ true
    go Set p q e = and-true (is_price p && is_quantity q) ∙ e
    go Remove p q e = and-true (is_price p) ∙ e

pub delta-back : DeltaReadsBack
delta-back d l h e = go (delta_fits d.action d.price d.quantity) refl
  where
    go : (t : Bool) → delta_fits d.action d.price d.quantity ≡ t → decode l ≡ some (delta (as_sent d))
    go true k =
        let same : encode (delta (as_sent d)) ≡ l = cc (delta-line d k) in
        ap decode (sym same) ∙ reads (delta (as_sent d)) (sent_whole d h k)
    go false k = let z : ◌≡◌ {A = ℕ} 0 1 = cc (delta_refused d k) in absurd (omega arith)

module _ (b : OrderBook) (w : Long b) where
  -- a book is its snapshot's book
  pub book-back : is_book b ≡ true → book_of (snapshot_of b) ≡ b
  book-back h =
      let k = a_book b h in
      λ i. record {
        bids = table-back Bid b.bids (record { ps = w.bid-prices; qs = w.bid_quantities }) (k.side Bid) i;
        asks = table-back Ask b.asks (record { ps = w.ask-prices; qs = w.ask_quantities }) (k.side Ask) i;
        sequence = b.sequence;
      }

  pub book-whole : is_book b ≡ true → b.sequence ≤ last_sequence → IsWhole (snapshot (snapshot_of b))
  unfolding is_whole
  book-whole h k = let e : is_book (book_of (snapshot_of b)) ≡ true = ap is_book (book-back h) ∙ h in rw (e, le-leb _ _ k)

pub book_read_back : BookReadsBack
book_read_back b l w k e = go (is_book b) refl
  where
    go : (t : Bool) → is_book b ≡ t → (decode l ≡ some (snapshot (snapshot_of b))) × (book_of (snapshot_of b) ≡ b)
    go true h =
        let same : encode (snapshot (snapshot_of b)) ≡ l = cc (snapshot_line_lem b h) in
        (ap decode (sym same) ∙ reads (snapshot (snapshot_of b)) (book-whole b w h k), book-back b w h)
    go false h = let z : ◌≡◌ {A = ℕ} 0 1 = cc (snapshot_refused b h) in absurd (omega arith)
