-- What every line keeps: a receiver stays a receiver, the number held never falls, and a line that is not taken leaves the book. Two results
-- that meet one promise are equal.
use Prim.Native.Nat.{ℕ, ◌+◌, ◌≤◌}
use mathlib.Core.Bool.{Bool, true, false, cond, false≢true, and-eq-true_iff}
use mathlib.Core.Option.{Option, none, some}
use mathlib.Core.Path.{◌≡◌, refl, sym, ap, ◌∙◌}
use mathlib.Core.List.{List, [], ◌∷◌, ◌++◌}
use native.Mathlib.Omega.{arith}
use borrow.Author.Tests.{ltb-true, leb-true, eqb-true}
use lib.Dec.{eqb, leb}
use lib.IntN.{ℤ}
use Rattle.types.specs.Replies.{Reply, done, refused}
use Rattle.types.proofs.Once.{one_answer}
use Rattle.types.proofs.Booleans.{by}
use Rattle.orderbook.specs.declared.OrderBook.{OrderBook}
use Rattle.deltas.specs.declared.BookDelta.{BookDelta}
use Rattle.orderbook.specs.Book.{is_book}
use Rattle.orderbook.specs.Apply.{applied}
use Rattle.orderbook.proofs.Kept.{delta_keeps}
use Rattle.frames.specs.Frames.{Snapshot, Frame, delta, snapshot, book_of, is_whole}
use Rattle.frames.specs.Decode.{decode}
use Rattle.frames.proofs.Reading.{only}
use Rattle.receiver.specs.declared.State.{State}
use Rattle.receiver.specs.declared.State.TheVariants.{Waiting, Live}
use Rattle.receiver.specs.declared.Receiver.{Receiver}
use Rattle.receiver.specs.declared.Taken.{Taken}
use Rattle.receiver.specs.Turns.{is_receiver, held, Turn, turn_of, live_at, stays, waits, loads, next_turn, delta_turn, turn, taken, heard}
use Rattle.receiver.specs.Kept.{turns_away, NotTaken, StaysReceiver, NeverFalls}
use Rattle.receiver.proofs.Turns.{is_taken, not_taken}

pick : (P : OrderBook → Type 0) (t : Bool) (x y : Turn) → (t ≡ true → P x.receiver.book) → (t ≡ false → P y.receiver.book) → P (cond t x y).receiver.book
pick P true x y p q = p refl
pick P false x y p q = q refl

not_older : (s : State) (h n : ℕ) → loads s h n ≡ true → h ≤ n
not_older Waiting h n e = leb-true h n e
not_older Live h n e = omega (arith, ltb-true h n e)

-- the book after a turn is the one held, a snapshot's that is not older, or what the next delta makes of it
module _ (P : OrderBook → Type 0) (r : Receiver) (stay : P r.book) where
  by_delta : (d : BookDelta) → (d.sequence ≡ held r + 1 → (applied r.book d).reply ≡ done tt → P (applied r.book d).book) → (s : State) → P (delta_turn s r d).receiver.book
  by_delta d step Waiting = stay
  by_delta d step Live =
      pick P (leb d.sequence (held r)) _ _ (λ _. stay)
      (λ _. pick P (eqb d.sequence (held r + 1)) _ _ (λ e. go (applied r.book d).reply refl (eqb-true _ _ e)) (λ _. stay))
    where
      go : (x : Reply (Unit {0})) → (applied r.book d).reply ≡ x → d.sequence ≡ held r + 1 → P (next_turn r x (applied r.book d).book).receiver.book
      go (done u) e n = step n e
      go (refused n vs) e k = stay

  by_turn :
      (o : Option Frame) → ((s : Snapshot) → o ≡ some (snapshot s) → held r ≤ s.sequence → P (book_of s)) →
      ((d : BookDelta) → o ≡ some (delta d) → d.sequence ≡ held r + 1 → (applied r.book d).reply ≡ done tt → P (applied r.book d).book) →
      P (turn r o).receiver.book
  unfolding turn
  by_turn none load step = stay
  by_turn (some (snapshot s)) load step = pick P (loads r.state (held r) s.sequence) _ _ (λ e. load s refl (not_older r.state (held r) s.sequence e)) (λ _. stay)
  by_turn (some (delta d)) load step = by_delta d (step d refl) r.state

  pub by-line :
      (l : List ℕ) → ((s : Snapshot) → decode l ≡ some (snapshot s) → held r ≤ s.sequence → P (book_of s)) →
      ((d : BookDelta) → decode l ≡ some (delta d) → d.sequence ≡ held r + 1 → (applied r.book d).reply ≡ done tt → P (applied r.book d).book) →
      P (taken r l).receiver.book
  by-line l load step = by (is_receiver r) (λ h. rw (is_taken r l h) (by_turn (decode l) load step)) (λ h. rw (not_taken r l h) stay)

-- a whole snapshot is a book
snapshot_book : (s : Snapshot) → is_whole (snapshot s) ≡ true → is_book (book_of s) ≡ true
unfolding is_whole
snapshot_book s w = ((and-eq-true_iff (is_book (book_of s)) _).0 w).0

-- a line leaves a receiver
pub taken-kept : StaysReceiver
taken-kept r l h =
    by-line (λ b. is_book b ≡ true) r h l (λ s e _. snapshot_book s (only l (snapshot s) e).0) (λ d _ _ e. (delta_keeps r.book d).book e)

pub heard-kept : (r : Receiver) (ls : List (List ℕ)) → is_receiver r ≡ true → is_receiver (heard r ls) ≡ true
unfolding heard
heard-kept r [] h = h
heard-kept r (l ∷ ls) h = heard-kept (taken r l).receiver ls (taken-kept r l h)

-- the number held never falls
pub taken_rises : NeverFalls
taken_rises r l =
    by-line (λ b. held r ≤ b.sequence) r (omega arith) l (λ s _ h. h) (λ d _ _ e. omega (arith, (delta_keeps r.book d).number e))

pub heard_rises : (r : Receiver) (ls : List (List ℕ)) → held r ≤ held (heard r ls)
unfolding heard
heard_rises r [] = omega arith
heard_rises r (l ∷ ls) = omega (arith, taken_rises r l, heard_rises (taken r l).receiver ls)

-- ── a line that is not taken ──

-- a turn's refusal leaves what it must
abbrev Leaves : Receiver → Turn → Type 0
Leaves r t =
    (n : ℕ) (vs : List ℤ) → t.reply ≡ refused n vs →
    (t.receiver ≡ record { state = cond (turns_away n) Waiting r.state; book = r.book }) × (turns_away n ≡ true → r.state ≡ Live)

module _ (r : Receiver) where
  live-leaves : (b : OrderBook) → Leaves r (live_at b)
  live-leaves b n vs e = let z : ◌≡◌ {A = ℕ} 0 1 = cc in absurd (omega arith)

  stays-leaves : (k : ℕ) → turns_away k ≡ false → Leaves r (stays r k)
  stays-leaves k h n vs e =
      let z : turns_away n ≡ false = let m : k ≡ n = cc in ap turns_away (sym m) ∙ h in
      (rw z, λ t. absurd (false≢true (sym z ∙ t)))

  waits-leaves : (k : ℕ) → turns_away k ≡ true → r.state ≡ Live → Leaves r (waits r k)
  waits-leaves k h live n vs e = let z : turns_away n ≡ true = let m : k ≡ n = cc in ap turns_away (sym m) ∙ h in (rw z, λ _. live)

  either : (t : Bool) (x y : Turn) → Leaves r x → Leaves r y → Leaves r (cond t x y)
  either true x y p q = p
  either false x y p q = q

  next-leaves : r.state ≡ Live → (x : Reply (Unit {0})) (b : OrderBook) → Leaves r (next_turn r x b)
  next-leaves live (done u) b = live-leaves b
  next-leaves live (refused n vs) b = waits-leaves 17 refl live

  delta-leaves : (s : State) → r.state ≡ s → (d : BookDelta) → Leaves r (delta_turn s r d)
  delta-leaves Waiting e d = stays-leaves 16 refl
  delta-leaves Live e d =
      either (leb d.sequence (held r)) _ _ (stays-leaves 14 refl)
      (either (eqb d.sequence (held r + 1)) _ _ (next-leaves e (applied r.book d).reply (applied r.book d).book) (waits-leaves 15 refl e))

  turn-leaves : (o : Option Frame) → Leaves r (turn r o)
  unfolding turn
  turn-leaves none = stays-leaves 12 refl
  turn-leaves (some (snapshot s)) = either (loads r.state (held r) s.sequence) _ _ (live-leaves (book_of s)) (stays-leaves 14 refl)
  turn-leaves (some (delta d)) = delta-leaves r.state refl d

pub not-taken-leaves : NotTaken
unfolding taken
not-taken-leaves r l = either r (is_receiver r) (turn r (decode l)) (stays r 1) (turn-leaves r (decode l)) (stays-leaves r 1 refl)

-- ── the turns of many lines ──

-- the receiver after lines is that of their last turn
pub heard_more : (r : Receiver) (ls ms : List (List ℕ)) → heard r (ls ++ ms) ≡ heard (heard r ls) ms
unfolding heard
heard_more r [] ms = refl
heard_more r (l ∷ ls) ms = heard_more (taken r l).receiver ls ms

-- ── one result ──

pub one-turn : (t : Turn) (x y : Taken) → turn_of x ≡ t → turn_of y ≡ t → x ≡ y
one-turn t x y e f =
    let receiver : x.receiver ≡ y.receiver = ap (λ (u : Turn). u.receiver) (e ∙ sym f) in
    let outcome : x.outcome ≡ y.outcome = one_answer t.reply x.outcome y.outcome (ap (λ (u : Turn). u.reply) e) (ap (λ (u : Turn). u.reply) f) in
    λ i. record { receiver = receiver i; outcome = outcome i }
