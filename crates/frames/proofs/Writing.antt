-- Laws of the lines that are written: when they are, and that its parts make a delta's line.
use Prim.Native.Nat.{ℕ, ◌+◌, ◌-◌, ◌%◌, ◌≤◌}
use mathlib.Core.Bool.{true, false}
use mathlib.Core.Path.{◌≡◌, refl, sym, ap, ap₂, ◌∙◌}
use mathlib.Core.List.{List, [], ◌∷◌, ◌++◌}
use native.Mathlib.Omega.{arith}
use lib.ListN.{length, take, drop}
use Rattle.types.specs.Replies.{done, refused}
use Rattle.types.specs.Named.{side_number}
use Rattle.deltas.specs.declared.BookDelta.{BookDelta}
use Rattle.deltas.specs.declared.DeltaAction.{DeltaAction}
use Rattle.deltas.specs.Delta.{delta_fits, action_number}
use Rattle.orderbook.specs.declared.OrderBook.{OrderBook}
use Rattle.orderbook.specs.Book.{is_book}
use Rattle.wire.specs.Wire.{line_feed, digits_of, be, line, Part}
use Rattle.wire.proofs.Places.{join, line_made}
use Rattle.frames.specs.Frames.{delta, snapshot, snapshot_of, encode}
use Rattle.frames.specs.Sent.{sent_quantity, as_sent, delta_line, snapshot_line}

pub delta-line : (d : BookDelta) → delta_fits d.action d.price d.quantity ≡ true → delta_line d ≡ done (encode (delta (as_sent d)))
unfolding delta_line
delta-line d h = rw h

pub delta_refused : (d : BookDelta) → delta_fits d.action d.price d.quantity ≡ false → delta_line d ≡ refused 2 []
unfolding delta_line
delta_refused d h = rw h

module _ (b : OrderBook) where
  pub snapshot_line_lem : is_book b ≡ true → snapshot_line b ≡ done (encode (snapshot (snapshot_of b)))
  unfolding snapshot_line
  snapshot_line_lem h = rw h

  pub snapshot_refused : is_book b ≡ false → snapshot_line b ≡ refused 1 []
  unfolding snapshot_line
  snapshot_refused h = rw h

-- a delta as sent, by its action
pub sent_as : (d : BookDelta) (a : DeltaAction) → d.action ≡ a
    → ◌≡◌ {A = BookDelta} (record { side = d.side; price = d.price; quantity = sent_quantity a d.quantity; action = d.action; sequence = d.sequence }) (as_sent d)
sent_as d a e = ap (λ (x : DeltaAction). record { side = d.side; price = d.price; quantity = sent_quantity x d.quantity; action = d.action; sequence = d.sequence }) (sym e)

pub delta-written : (d : BookDelta) (b a : ℕ) (l₀ l₁ l₂ l₃ : List ℕ) (s t : ℕ) → b ≡ side_number d.side → a ≡ action_number d.action
    → Part (be 1 1 (be 1 b (be 1 a []))) 0 l₀ l₁ s
    → Part (be 4 d.price (be 4 d.quantity (be 8 d.sequence []))) 3 l₁ l₂ t
    → l₃ ≡ take 38 l₂ ++ (digits_of ((256 - (s + t) % 256) % 256 ∷ []) ++ line_feed ∷ drop 41 l₂)
    → 41 ≤ length l₀ → l₃ ≡ encode (delta d) ++ drop 41 l₀
unfolding encode
delta-written d b a l₀ l₁ l₂ l₃ s t eb ea p q e h =
    let rest = be 4 d.price (be 4 d.quantity (be 8 d.sequence [])) in
    line_made (be 1 1 (be 1 b (be 1 a rest))) l₀ l₂ l₃ 19 (s + t) refl (join (be 1 1 (be 1 b (be 1 a []))) rest 0 l₀ l₁ l₂ s t p q (omega arith)) e
    ∙ ap₂ (λ (x y : ℕ). line (be 1 1 (be 1 x (be 1 y rest))) ++ drop 41 l₀) eb ea
