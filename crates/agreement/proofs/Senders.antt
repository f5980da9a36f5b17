-- What the book's laws say of a sender: its book after n deltas is a book at number n, each delta sent takes it from one to the next,
-- and each frame that it sends is whole.
use Prim.Native.Nat.{ℕ, zero, suc, ◌+◌, ◌<◌, ◌≤◌}
use mathlib.Core.Bool.{Bool, true, false, cond, ◌&&◌}
use mathlib.Core.Option.{some}
use mathlib.Core.Path.{◌≡◌, refl, sym, ap, subst, ◌∙◌}
use mathlib.Core.List.{List, [], ◌∷◌}
use native.Mathlib.Omega.{arith}
use borrow.Author.Tests.{ltb-true, eqb-true, le-leb}
use lib.Dec.{eqb, leb, ltb}
use lib.IntN.{ℤ}
use lib.ListN.{length}
use Rattle.types.specs.Limits.{max_levels, last_sequence}
use Rattle.types.specs.Replies.{Reply, done, refused}
use Rattle.types.specs.declared.PriceLevel.{PriceLevel}
use Rattle.levels.specs.Order.{in_order}
use Rattle.levels.specs.Table.{table}
use Rattle.levels.specs.Formed.{every, well_formed}
use Rattle.levels.proofs.Tables.{levels-back}
use Rattle.sides.specs.Best.{best_of, is_apart}
use Rattle.orderbook.specs.declared.OrderBook.{OrderBook}
use Rattle.deltas.specs.declared.BookDelta.{BookDelta}
use Rattle.deltas.specs.declared.DeltaAction.{DeltaAction}
use Rattle.deltas.specs.declared.DeltaAction.TheVariants.{Set, Remove}
use Rattle.orderbook.specs.Book.{sides_fit, is_book, empty_book}
use Rattle.deltas.specs.Delta.{delta_fits}
use Rattle.orderbook.specs.Apply.{Change, kept, placed, tried, applied}
use Rattle.orderbook.proofs.Kept.{delta_keeps, remove_any}
use Rattle.frames.specs.Frames.{Frame, delta, snapshot, book_of, snapshot_of, is_whole, IsWhole}
use Rattle.frames.specs.Sent.{sent_quantity, as_sent}
use Rattle.frames.proofs.Sent.{sent_whole}
use Rattle.agreement.specs.Agreement.{Entry, entered, history, book_past, delta_at, count, book_after, Sends}

-- ── a delta that a book accepts ──

pub record Accepted (b : OrderBook) (d : BookDelta) (c : Change) : Type 0 where
  pub fits : delta_fits d.action d.price d.quantity ≡ true
  pub below : b.sequence < last_sequence
  pub next : d.sequence ≡ b.sequence + 1
  pub back : book_of (snapshot_of c.book) ≡ c.book

module _ (b : OrderBook) (d : BookDelta) where
  abbrev If : Change → Type 0
  If c = c.reply ≡ done tt → Accepted b d c

  if_refused : (n : ℕ) (vs : List ℤ) → If (kept b n vs)
  if_refused n vs e = let z : ◌≡◌ {A = ℕ} 0 1 = cc in absurd (omega arith)

  if_either : (t : Bool) (x y : Change) → (t ≡ true → If x) → (t ≡ false → If y) → If (cond t x y)
  if_either true x y f g = f refl
  if_either false x y f g = g refl

  if_placed : delta_fits d.action d.price d.quantity ≡ true → b.sequence < last_sequence → d.sequence ≡ b.sequence + 1 → (bids asks : List PriceLevel) → If (placed b d.sequence bids asks)
  if_placed f m n bids asks =
      if_either (is_apart (best_of bids) (best_of asks)) _ _
      (λ _.
      if_either (leb (length bids) max_levels && leb (length asks) max_levels) _ _
      (λ _ _. record { fits = f; below = m; next = n; back = λ i. record { bids = table (levels-back bids i); asks = table (levels-back asks i); sequence = d.sequence } })
      (λ _. if_refused 6 []))
      (λ _. if_refused 5 _)

  pub accepted : If (applied b d)
  unfolding applied tried
  accepted =
      if_either (is_book b) _ _
      (λ _.
      if_either (delta_fits d.action d.price d.quantity) _ _
      (λ f.
      if_either (ltb b.sequence last_sequence) _ _
      (λ m.
      if_either (eqb d.sequence (b.sequence + 1)) _ _ (λ n. if_placed f (ltb-true _ _ m) (eqb-true _ _ n) _ _) (λ _. if_refused 4 _))
      (λ _. if_refused 3 []))
      (λ _. if_refused 2 []))
      (λ _. if_refused 1 [])

-- a delta as sent does what the delta does
quiet : (b : OrderBook) (d : BookDelta) → applied b (as_sent d) ≡ applied b d
quiet b d = go d.action
  where
    go : (a : DeltaAction) →
        applied b (record { side = d.side; price = d.price; quantity = sent_quantity a d.quantity; action = a; sequence = d.sequence })
        ≡ applied b (record { side = d.side; price = d.price; quantity = d.quantity; action = a; sequence = d.sequence })
    go Set = refl
    go Remove = remove_any b d.side d.price d.sequence 0 d.quantity

-- and is its own as sent
sent_twice : (d : BookDelta) → as_sent (as_sent d) ≡ as_sent d
sent_twice d = let e = go d.action d.quantity in λ i. record { side = d.side; price = d.price; quantity = e i; action = d.action; sequence = d.sequence }
  where
    go : (a : DeltaAction) (q : ℕ) → sent_quantity a (sent_quantity a q) ≡ sent_quantity a q
    go Set q = refl
    go Remove q = refl

-- ── the sender's deltas ──

-- the delta sent at place n takes its book from one to the next
pub record Goes (b : OrderBook) (es : List Entry) (n : ℕ) (d : BookDelta) : Type 0 where
  pub as_sent_lem : as_sent d ≡ d
  pub goes : applied (book_past b es n) d ≡ record { book = book_past b es (suc n); reply = done tt }

pub all_go : (ds : List BookDelta) (b : OrderBook) (n : ℕ) (d : BookDelta) → delta_at (history b ds) n ≡ some d → Goes b (history b ds) n d
unfolding history
all_go [] b n d h = let z : ◌≡◌ {A = ℕ} 0 1 = cc in absurd (omega arith)
all_go (o ∷ ds) b n d h = go (applied b o).reply refl n h (all_go ds)
  where
    go :
        (x : Reply (Unit {0})) → (applied b o).reply ≡ x → (m : ℕ) → delta_at (entered x o (applied b o).book (history (applied b o).book ds)) m ≡ some d →
        ((c : OrderBook) (k : ℕ) (e : BookDelta) → delta_at (history c ds) k ≡ some e → Goes c (history c ds) k e) →
        Goes b (entered x o (applied b o).book (history (applied b o).book ds)) m d
    go (refused k vs) e m a ih =
        subst (λ (c : OrderBook). delta_at (history c ds) m ≡ some d → Goes b (history c ds) m d) (sym ((delta_keeps b o).same k vs e)) (ih b m d) a
    go (done u) e zero a ih =
        let same : as_sent o ≡ d = cc in
        let told : applied b o ≡ record { book = (applied b o).book; reply = done tt } = λ i. record { book = (applied b o).book; reply = e i } in
        record { as_sent_lem = subst (λ (x : BookDelta). as_sent x ≡ x) same (sent_twice o); goes = ap (applied b) (sym same) ∙ quiet b o ∙ told }
    go (done u) e (suc m) a ih = let w = ih (applied b o).book m d a in record { as_sent_lem = w.as_sent_lem; goes = w.goes }

-- there is a delta at each place
delta_there : (es : List Entry) (n : ℕ) → n < length es → (d : BookDelta) × (delta_at es n ≡ some d)
delta_there [] n h = absurd (omega arith)
delta_there (e ∷ es) zero h = (e.sent, refl)
delta_there (e ∷ es) (suc n) h = delta_there es n (omega arith)

-- and at no other
pub place_below : (es : List Entry) (n : ℕ) (d : BookDelta) → delta_at es n ≡ some d → n < length es
place_below [] n d h = let z : ◌≡◌ {A = ℕ} 0 1 = cc in absurd (omega arith)
place_below (e ∷ es) zero d h = omega arith
place_below (e ∷ es) (suc n) d h = omega (arith, place_below es n d h)

-- ── the sender's book ──

-- a book at number n, which its snapshot gives back
pub record Own (n : ℕ) (b : OrderBook) : Type 0 where
  pub number : b.sequence ≡ n
  pub book : is_book b ≡ true
  pub back : book_of (snapshot_of b) ≡ b
  pub small : n ≤ last_sequence

pub empty_book_lem : is_book empty_book ≡ true
unfolding sides_fit well_formed in_order every best_of is_apart
empty_book_lem = refl

module _ (ds : List BookDelta) where
  pub own : (n : ℕ) → n ≤ count ds → Own n (book_after ds n)
  own zero h =
      record { number = refl; book = empty_book_lem; back = λ i. record { bids = table (levels-back [] i); asks = table (levels-back [] i); sequence = 0 }; small = omega arith }
  own (suc n) h =
      let b = book_after ds n in
      let x = delta_there (history empty_book ds) n h in
      let g = (all_go ds empty_book n x.0 x.1).goes in
      let before = own n (omega arith) in
      let r : (applied b x.0).reply ≡ done tt = ap (λ (c : Change). c.reply) g in
      let w = accepted b x.0 r in
      let k = delta_keeps b x.0 in
      subst (Own (suc n)) (ap (λ (c : Change). c.book) g)
      (record { number = omega (arith, k.number r, before.number); book = k.book r; back = w.back; small = omega (arith, w.below, before.number) })

  -- a delta's number is one more than its place
  pub delta-number : (n : ℕ) (d : BookDelta) → delta_at (history empty_book ds) n ≡ some d → d.sequence ≡ n + 1
  delta-number n d a =
      let w = accepted (book_after ds n) d (ap (λ (c : Change). c.reply) (all_go ds empty_book n d a).goes) in
      omega (arith, w.next, (own n (omega (arith, place_below (history empty_book ds) n d a))).number)

  -- the sender's frames are whole
  snapshot_whole : (n : ℕ) (b : OrderBook) → Own n b → IsWhole (snapshot (snapshot_of b))
  unfolding is_whole
  snapshot_whole n b o =
      let e : is_book (book_of (snapshot_of b)) ≡ true = ap is_book o.back ∙ o.book in
      let h : b.sequence ≤ last_sequence = omega (arith, o.number, o.small) in
      rw (e, le-leb _ _ h)

  pub sends_whole : (f : Frame) → Sends ds f → IsWhole f
  sends_whole (snapshot s) t = rw t.2 (snapshot_whole t.0 (book_after ds t.0) (own t.0 t.1))
  sends_whole (delta d) t =
      let g = all_go ds empty_book t.0 d t.1 in
      let w = accepted (book_after ds t.0) d (ap (λ (c : Change). c.reply) g.goes) in
      subst (λ (x : BookDelta). IsWhole (delta x)) g.as_sent_lem (sent_whole d (omega (arith, w.next, w.below)) w.fits)
