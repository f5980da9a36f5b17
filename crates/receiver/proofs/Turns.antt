-- What a line's turn is, case by case: by what was read, and for a delta by its number.
use Rattle.std.specs.Prelude.{Result, Ok, Err}
use Prim.Native.Nat.{ℕ, ◌+◌, ◌<◌, ◌≤◌}
use mathlib.Core.Bool.{true, false}
use mathlib.Core.Option.{Option, none, some}
use mathlib.Core.Path.{◌≡◌, refl, sym, ap, ◌∙◌}
use mathlib.Core.List.{List, []}
use native.Mathlib.Omega.{arith}
use borrow.Author.Tests.{lt-ltb, le-leb, lt-leb, eq-eqb, ne_eqb}
use Rattle.types.specs.Limits.{last_sequence}
use Rattle.types.specs.Replies.{Reply, done, refused, number_of, values_of, refuse}
use Rattle.types.specs.Answers.{reply_of}
use Rattle.types.specs.declared.Refusal.{Refusal}
use Rattle.deltas.specs.declared.BookDelta.{BookDelta}
use Rattle.deltas.specs.Delta.{delta_fits}
use Rattle.deltas.specs.Inner.Deciding.{step_of}
use Rattle.deltas.specs.Inner.Admitting.{Admission}
use Rattle.orderbook.specs.declared.OrderBook.{OrderBook}
use Rattle.orderbook.specs.Apply.{Change, applied}
use Rattle.orderbook.proofs.Kept.{delta_keeps}
use Rattle.frames.specs.Frames.{Frame, delta, snapshot}
use Rattle.frames.specs.Decode.{decode, delta_read}
use Rattle.frames.proofs.Reading.{as_read}
use Rattle.lines.specs.Read.{change_read, snapshot_read}
use Rattle.receiver.specs.declared.State.{State}
use Rattle.receiver.specs.declared.State.TheVariants.{Waiting, Live}
use Rattle.receiver.specs.declared.Receiver.{Receiver}
use Rattle.receiver.specs.Turns.{is_receiver, held, Turn, live_at, stays, waits, loads, next_turn, delta_turn, turn, taken}
use Rattle.receiver.specs.Inner.Others.{other_turn}

-- ── by what was read ──

module _ (r : Receiver) where
  delta-turn : (o : Option Frame) (d : BookDelta) → done d ≡ delta_read o → delta_turn r.state r d ≡ turn r o
  unfolding turn
  delta-turn o d e = rw (as_read o d e)

  other-turn : (o : Option Frame) (x : Refusal) → refuse x ≡ delta_read o → other_turn r (snapshot_read o) ≡ turn r o
  unfolding turn
  other-turn none x e = refl
  other-turn (some (delta d)) x e = let z : ◌≡◌ {A = ℕ} 0 1 = cc in absurd (omega arith)
  other-turn (some (snapshot s)) x e = refl

module _ (r : Receiver) (l : List ℕ) where
  pub not_taken : is_receiver r ≡ false → taken r l ≡ stays r 1
  unfolding taken
  not_taken h = rw h

  pub is_taken : is_receiver r ≡ true → taken r l ≡ turn r (decode l)
  unfolding taken
  is_taken h = rw h

  -- a delta
  pub taken-delta : is_receiver r ≡ true → (d : BookDelta) → done d ≡ delta_read (decode l) → delta_turn r.state r d ≡ taken r l
  taken-delta h d e = delta-turn r (decode l) d e ∙ sym (is_taken h)

  -- any other line
  pub taken-other :
      is_receiver r ≡ true → (x : Refusal) → refuse x ≡ delta_read (decode l) → (c : Change) → c ≡ snapshot_read (decode l) → other_turn r c ≡ taken r l
  taken-other h x e c f = ap (other_turn r) f ∙ other-turn r (decode l) x e ∙ sym (is_taken h)

-- ── a snapshot ──

module _ (r : Receiver) (s : OrderBook) where
  pub loaded_turn :
      (b : OrderBook) → loads r.state (held r) s.sequence ≡ true → b ≡ s →
      ◌≡◌ {A = Turn} (record { receiver = record { state = Live; book = b }; reply = done tt }) (other_turn r (change_read (Ok s)))
  loaded_turn b h e = rw (h, e)

  pub old_snapshot : loads r.state (held r) s.sequence ≡ false → stays r 14 ≡ other_turn r (change_read (Ok s))
  old_snapshot h = rw h

-- ── a delta ──

module _ (r : Receiver) (d : BookDelta) where
  -- the next one is admitted where its numbers are within their limits
  pub next_admitted : delta_fits d.action d.price d.quantity ≡ true → held r < last_sequence → d.sequence ≡ held r + 1 → Admission (Ok tt) (held r) d
  unfolding step_of
  next_admitted h k e = λ _ _ _ _. rw (h, lt-ltb (held r) last_sequence k, eq-eqb d.sequence (held r + 1) e)

  pub waiting-turn : r.state ≡ Waiting → delta_turn r.state r d ≡ stays r 16
  waiting-turn w = rw w

  module _ (live : r.state ≡ Live) where
    pub old_turn : d.sequence ≤ held r → delta_turn r.state r d ≡ stays r 14
    old_turn h = rw (live, le-leb _ _ h)

    pub next-turn : d.sequence ≡ held r + 1 → delta_turn r.state r d ≡ next_turn r (applied r.book d).reply (applied r.book d).book
    next-turn e = rw (live, lt-leb d.sequence (held r) (omega arith), eq-eqb _ _ e)

    pub gap-turn : held r + 1 < d.sequence → delta_turn r.state r d ≡ waits r 15
    gap-turn h = rw (live, lt-leb d.sequence (held r) (omega arith), ne_eqb d.sequence (held r + 1) (λ e. omega arith))

    -- the next delta, by what `apply_to_book` left
    module _ (b : OrderBook) (o : Result (Unit {0}) Refusal) (given : ◌≡◌ {A = Change} (record { book = b; reply = reply_of o }) (applied r.book d)) where
      pub done_turn : o ≡ (Ok tt) → live_at b ≡ next_turn r (applied r.book d).reply (applied r.book d).book
      done_turn e = ap (λ (x : Result (Unit {0}) Refusal). next_turn r (reply_of x) b) (sym e) ∙ ap (λ (c : Change). next_turn r c.reply c.book) given

      pub refused-turn :
          (x : Refusal) → o ≡ Err x →
          record { receiver = record { state = Waiting; book = b }; reply = refused 17 [] } ≡ next_turn r (applied r.book d).reply (applied r.book d).book
      refused-turn x e =
          let kept : b ≡ r.book = ap (λ (c : Change). c.book) given
          ∙ (delta_keeps r.book d).same (number_of x) (values_of x) (sym (ap (λ (c : Change). c.reply) given) ∙ ap reply_of e) in
          ap (λ (y : OrderBook). record { receiver = record { state = Waiting; book = y }; reply = refused 17 [] }) kept
          ∙ ap (λ (y : Result (Unit {0}) Refusal). next_turn r (reply_of y) b) (sym e)
          ∙ ap (λ (c : Change). next_turn r c.reply c.book) given

-- what becomes of the next delta does not ask for the state
pub next_any : (s t : State) (b : OrderBook) (x : Reply (Unit {0})) (y : OrderBook) → next_turn (record { state = s; book = b }) x y ≡ next_turn (record { state = t; book = b }) x y
next_any s t b (done u) y = refl
next_any s t b (refused n vs) y = refl
