-- What a receiver shows of a sender, proved.
use Prim.Native.Nat.{ℕ, ◌+◌, ◌≤◌}
use mathlib.Core.Bool.{true}
use mathlib.Core.Option.{Option, none, some}
use mathlib.Core.Path.{◌≡◌, refl, sym, ap, ◌∙◌}
use mathlib.Core.List.{List, [], ◌∷◌, ◌++◌, append-nil, map, map-append}
use native.Mathlib.Omega.{arith}
use borrow.Author.Tests.{le-leb, le-ltb, ltb-false}
use lib.Dec.{ltb}
use Rattle.types.proofs.Booleans.{by}
use Rattle.orderbook.specs.declared.OrderBook.{OrderBook}
use Rattle.deltas.specs.declared.BookDelta.{BookDelta}
use Rattle.orderbook.specs.Apply.{Change, applied}
use Rattle.frames.specs.Frames.{Snapshot, Frame, delta, snapshot, book_of, encode}
use Rattle.frames.specs.Decode.{decode}
use Rattle.frames.proofs.Reading.{reads}
use Rattle.receiver.specs.declared.State.{State}
use Rattle.receiver.specs.declared.State.TheVariants.{Waiting, Live}
use Rattle.receiver.specs.declared.Receiver.{Receiver}
use Rattle.receiver.specs.Turns.{is_receiver, start, held, Turn, snapshot_turn, next_turn, turn, taken, heard}
use Rattle.receiver.proofs.Turns.{is_taken, old_turn, next-turn}
use Rattle.receiver.proofs.Kept.{heard-kept, heard_rises, heard_more}
use Rattle.agreement.specs.Agreement.{book_after, Arrived, Undamaged, LiveAt, Old, AllOld, Shown, NeverFalls, Loaded, StaysLive, KeptUp}
use Rattle.agreement.proofs.Senders.{own, empty_book_lem, sends_whole}
use Rattle.agreement.proofs.Follows.{Follows, arrived_read, read_front, undamaged_lines, snapshot_own, next_own, follows_start}

-- ── lines heard ──

heard-one : (r : Receiver) (l : List ℕ) → heard r (l ∷ []) ≡ (taken r l).receiver
unfolding heard
heard-one r l = refl

started : (ls : List (List ℕ)) → is_receiver (heard start ls) ≡ true
started ls = heard-kept start ls empty_book_lem

-- a whole line's turn
line-turn : (r : Receiver) (f : Frame) → is_receiver r ≡ true → decode (encode f) ≡ some f → taken r (encode f) ≡ turn r (some f)
line-turn r f h e = is_taken r (encode f) h ∙ ap (turn r) e

-- a snapshot not older, of the book that a live receiver of its number holds
loaded_turn : (r : Receiver) (s : Snapshot) → held r ≤ s.sequence → (held r ≡ s.sequence → r.book ≡ book_of s) → (turn r (some (snapshot s))).receiver ≡ record { state = Live; book = book_of s }
unfolding turn
loaded_turn r s h same = go r.state refl
  where
    go : (x : State) → r.state ≡ x → (snapshot_turn r (book_of s)).receiver ≡ record { state = Live; book = book_of s }
    go Waiting e = rw (e, le-leb (held r) s.sequence h)
    go Live e =
        by (ltb (held r) s.sequence) (λ t. rw (e, t))
        (λ t. let k : held r ≡ s.sequence = omega (arith, ltb-false (held r) s.sequence t) in rw (e, t) (λ i. record { state = Live; book = same k i }))

-- an old or damaged line changes nothing while live
module _ (r : Receiver) (is : is_receiver r ≡ true) (live : r.state ≡ Live) where
  old_turn_kept : (o : Option Frame) → Old (held r) o → (turn r o).receiver ≡ r
  unfolding turn
  old_turn_kept none h = refl
  old_turn_kept (some (delta d)) h = ap (λ (t : Turn). t.receiver) (old_turn r d live h)
  old_turn_kept (some (snapshot s)) h = rw (live, le-ltb (held r) s.sequence h)

  old_kept : (ms ns : List (List ℕ)) → AllOld (held r) ms → heard r (ms ++ ns) ≡ heard r ns
  unfolding heard
  old_kept [] ns h = refl
  old_kept (m ∷ ms) ns h =
      ap (λ (x : Receiver). heard x (ms ++ ns)) (ap (λ (t : Turn). t.receiver) (is_taken r m is) ∙ old_turn_kept (decode m) h.0) ∙ old_kept ms ns h.1

  old_same : (ms : List (List ℕ)) → AllOld (held r) ms → heard r ms ≡ r
  unfolding heard
  old_same ms h = ap (heard r) (sym (append-nil ms)) ∙ old_kept ms [] h

  -- the next delta that the book takes
  next-live : (d : BookDelta) (c : Change) → d.sequence ≡ held r + 1 → applied r.book d ≡ c → (turn r (some (delta d))).receiver ≡ (next_turn r c.reply c.book).receiver
  unfolding turn
  next-live d c e a = ap (λ (t : Turn). t.receiver) (next-turn r d live e) ∙ ap (λ (x : Change). (next_turn r x.reply x.book).receiver) a

module _ (ds : List BookDelta) where
  fronted : (ls ms : List (List ℕ)) → Arrived ds (ls ++ ms) → Follows ds (heard start ls).book
  fronted ls ms a = follows_start ds ls (read_front ds (map decode ls) (map decode ms) (rw (map-append decode ls ms) at (arrived_read ds (ls ++ ms) a)))

  -- a receiver live with the sender's book after delta n is live at n
  live_at_lem : (n : ℕ) (b : OrderBook) (r : Receiver) → b ≡ book_after ds n → b.sequence ≡ n → r ≡ record { state = Live; book = b } → LiveAt ds r n
  live_at_lem n b r e k h =
      record { live = ap (λ (x : Receiver). x.state) h; number = ap held h ∙ k; book = ap (λ (x : Receiver). x.book) h ∙ e }

  pub undamaged : Undamaged ds
  undamaged = undamaged_lines ds

  -- (a)
  pub shown : Shown ds
  shown ls a = let f = follows_start ds ls (arrived_read ds ls a) in (f.same, f.so_far)

  -- (c)
  pub loaded : Loaded ds
  loaded ls s a t h =
      let r = heard start ls in
      let f = fronted ls (encode (snapshot s) ∷ []) a in
      let o = snapshot_own ds s t in
      let book : book_of s ≡ book_after ds s.sequence = o.0 ∙ ap (book_after ds) (sym o.1) in
      live_at_lem s.sequence (book_of s) _ book refl
      (heard_more start ls (encode (snapshot s) ∷ []) ∙ heard-one r (encode (snapshot s))
      ∙ ap (λ (x : Turn). x.receiver) (line-turn r (snapshot s) (started ls) (reads (snapshot s) (sends_whole ds (snapshot s) t)))
      ∙ loaded_turn r s h (λ k. f.same ∙ ap (book_after ds) k ∙ sym book))

  -- (d)
  pub stays-live : StaysLive ds
  stays-live ls ms a live old =
      let r = heard start ls in
      let same : heard start (ls ++ ms) ≡ r = heard_more start ls ms ∙ old_same r (started ls) live ms old in
      (same, live_at_lem (held r) r.book _ (fronted ls ms a).same refl (same ∙ λ i. record { state = live i; book = r.book }))

  pub kept_up : KeptUp ds
  kept_up ls ms d a t live e old =
      let r = heard start ls in
      let l = encode (delta d) in
      let f = fronted ls (ms ++ l ∷ []) a in
      let g = next_own ds r.book f d t e in
      live_at_lem d.sequence (book_after ds d.sequence) _ refl (own ds d.sequence g.1).number
      (heard_more start ls (ms ++ l ∷ []) ∙ old_kept r (started ls) live ms (l ∷ []) old ∙ heard-one r l
      ∙ ap (λ (x : Turn). x.receiver) (line-turn r (delta d) (started ls) (reads (delta d) (sends_whole ds (delta d) t)))
      ∙ next-live r (started ls) live d _ e g.0)

-- (b)
pub never_falls : NeverFalls
never_falls = heard_rises
