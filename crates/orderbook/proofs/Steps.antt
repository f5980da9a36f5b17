-- A step carried out on its side's rows is the change that `applied` defines: the edit fits the rows, and the tables, the sequence and the reply that
-- it leaves are those of `tried`.
use Rattle.std.specs.Prelude.{Result, Err}
use Prim.Native.Nat.{ℕ, ◌+◌, ◌≤◌, ◌<◌}
use native.Mathlib.Omega.{arith}
use mathlib.Core.Path.{◌≡◌, refl, sym, ap, ◌∙◌}
use mathlib.Core.Bool.{true, false, and-eq-true_iff}
use mathlib.Core.List.{List}
use lib.Dec.{leb, ltb, eqb}
use lib.ListN.{length, take, get_or}
use borrow.Author.Tests.{leb-true, leb-false, le-leb, lt-leb}
use Rattle.types.specs.Limits.{is_price, is_quantity, max_levels, last_sequence}
use Rattle.types.specs.Replies.{done, refuse}
use Rattle.types.specs.Answers.{reply_of}
use Rattle.types.specs.declared.Side.{Side}
use Rattle.types.specs.declared.Side.TheVariants.{Bid, Ask}
use Rattle.types.specs.declared.PriceLevel.{PriceLevel}
use Rattle.types.specs.declared.Refusal.{Refusal}
use Rattle.types.specs.declared.Refusal.TheVariants as R
use Rattle.levels.specs.Order.{in_order}
use Rattle.levels.specs.Table.{level, table}
use Rattle.levels.specs.Change.{set_level, remove_level}
use Rattle.levels.specs.declared.Levels.{Levels}
use Rattle.changes.specs.declared.Edit.{Edit}
use Rattle.changes.specs.Inner.Edits.{edited, EditFits, edit_of}
use Rattle.types.proofs.Booleans.{by}
use Rattle.levels.proofs.Tables.{Sized, Formed, table-back, levels-prices, levels_few, first_row}
use Rattle.changes.proofs.Changes.{remove-length}
use Rattle.changes.proofs.Edits.{set-fits, remove-fits, set_some, set-edited, set_full, remove-edited}
use Rattle.orderbook.specs.declared.OrderBook.{OrderBook}
use Rattle.deltas.specs.declared.BookDelta.{BookDelta}
use Rattle.deltas.specs.declared.DeltaAction.{DeltaAction}
use Rattle.deltas.specs.declared.DeltaAction.TheVariants.{Set, Remove}
use Rattle.orderbook.specs.Book.{opposite, side_of, levels_of, bids_of, asks_of, is_book}
use Rattle.orderbook.specs.Apply.{Change, acted, after_delta, best_price, placed, tried}
use Rattle.deltas.specs.Delta.{delta_fits}
use Rattle.deltas.specs.Inner.Deciding.{meets, inverted, action_step, step_of, sequence_after, outcome_of}
use Rattle.deltas.specs.Inner.Admitting.{Admission}
use Rattle.orderbook.proofs.Books.{a_book, Tested, sized}
use Rattle.orderbook.proofs.Bests.{apart_on, best-first, priced, set_apart, set-best, remove_apart}

-- what a book's two sides are, when one of them is looked at first
pub record Sides (s : Side) (b : OrderBook) : Type 0 where
  pub own : Formed s (side_of s b)
  pub rest : Formed (opposite s) (side_of (opposite s) b)
  pub apart : apart_on s (levels_of s b) (levels_of (opposite s) b) ≡ true

pub sides : (s : Side) (b : OrderBook) → is_book b ≡ true → Sides s b
sides Bid b h = let k = a_book b h in record { own = k.side Bid; rest = k.side Ask; apart = k.apart }
sides Ask b h = let k = a_book b h in record { own = k.side Ask; rest = k.side Bid; apart = k.apart }

-- the rows of both sides have 128 places
pub record Rows (s : Side) (b : OrderBook) : Type 0 where
  pub own : Sized (side_of s b)
  pub rest : Sized (side_of (opposite s) b)

pub both-rows : (s : Side) {b : OrderBook} → Tested b → Rows s b
both-rows s t = record { own = sized t s; rest = sized t (opposite s) }

-- the book with one side's table and a sequence
abbrev pub with_side : Side → Levels → ℕ → OrderBook → OrderBook
with_side Bid t n b = record { bids = t; asks = b.asks; sequence = n }
with_side Ask t n b = record { bids = b.bids; asks = t; sequence = n }

-- a step carried out
abbrev pub carried : Side → Result Edit Refusal → OrderBook → BookDelta → Change
carried s st b d =
    record {
      book = with_side s (edited (edit_of st) (level d.price d.quantity) (side_of s b)) (sequence_after st b.sequence d.sequence) b;
      reply = reply_of (outcome_of st);
    }

-- the step of a delta to a side of a book
abbrev pub step_on : Side → OrderBook → BookDelta → Result Edit Refusal
step_on s b d = step_of s (take (side_of s b).count (side_of s b).prices) (side_of s b).count (get_or (side_of (opposite s) b).prices 0 0) b.sequence d

-- a refusal leaves everything
refusal-carried : (s : Side) (r : Refusal) (b : OrderBook) (d : BookDelta) → carried s (Err r) b d ≡ record { book = b; reply = refuse r }
refusal-carried Bid r b d = refl
refusal-carried Ask r b d = refl

-- placing a side's new levels beside the other side's old ones
abbrev placed_on : Side → OrderBook → ℕ → List PriceLevel → Change
placed_on Bid b n new = placed b n new (levels_of Ask b)
placed_on Ask b n new = placed b n (levels_of Bid b) new

module _ (b : OrderBook) (n : ℕ) (new : List PriceLevel) where
  placed-crossed : (s : Side) → apart_on s new (levels_of (opposite s) b) ≡ false → placed_on s b n new ≡ record { book = b; reply = refuse (inverted s (best_price new) (best_price (levels_of (opposite s) b))) }
  placed-crossed Bid h = rw h
  placed-crossed Ask h = rw h

  few : (s : Side) → Sides s b → leb (length (levels_of (opposite s) b)) max_levels ≡ true
  few s p = le-leb (length (levels_of (opposite s) b)) max_levels (omega (arith, levels_few (side_of (opposite s) b), p.rest.few))

  placed-full : (s : Side) → Sides s b → apart_on s new (levels_of (opposite s) b) ≡ true → max_levels < length new → placed_on s b n new ≡ record { book = b; reply = refuse R.FullSide }
  placed-full Bid p h k = rw (h, lt-leb _ _ k)
  placed-full Ask p h k = rw (h, few Ask p, lt-leb _ _ k)

  placed_done : (s : Side) → Sides s b → Rows s b → apart_on s new (levels_of (opposite s) b) ≡ true → length new ≤ max_levels → placed_on s b n new ≡ record { book = with_side s (table new) n b; reply = done tt }
  placed_done Bid p w h k = rw (h, le-leb _ _ k, few Bid p, table-back Ask b.asks w.rest p.rest)
  placed_done Ask p w h k = rw (h, few Ask p, le-leb _ _ k, table-back Bid b.bids w.rest p.rest)

-- a delta places new levels on its own side
on-side :
    (s : Side) (b : OrderBook) (d : BookDelta) → d.side ≡ s →
    placed b d.sequence (after_delta Bid d.side d (bids_of b)) (after_delta Ask d.side d (asks_of b)) ≡
    placed_on s b d.sequence (acted d.action s (level d.price d.quantity) (levels_of s b))
on-side Bid b d e = rw e
on-side Ask b d e = rw e

fits-price : (a : DeltaAction) (p q : ℕ) → delta_fits a p q ≡ true → is_price p ≡ true
fits-price Set p q h = ((and-eq-true_iff (is_price p) (is_quantity q)).0 h).0
fits-price Remove p q h = h

module _ (s : Side) (b : OrderBook) (p : Sides s b) (w : Rows s b) where
  abbrev mine : List PriceLevel
  mine = levels_of s b

  abbrev other : List PriceLevel
  other = levels_of (opposite s) b

  -- the other side's best price is its row's first
  top_price : get_or (side_of (opposite s) b).prices 0 0 ≡ best_price other
  top_price = first_row (opposite s) (side_of (opposite s) b) w.rest p.rest ∙ best-first other

  -- what is asked of a row to decide on it
  pub in_rows : (length (side_of s b).prices ≡ max_levels) × ((side_of s b).count ≤ max_levels) × (in_order s (take (side_of s b).count (side_of s b).prices) ≡ true)
  in_rows = (w.own.ps, p.own.few, rw (levels-prices (side_of s b) w.own p.own.few) at p.own.order)

  -- the action alone
  module _ (d : BookDelta) where
    abbrev l : PriceLevel
    l = level d.price d.quantity

    abbrev act : DeltaAction → Result Edit Refusal
    act a = action_step a s (take (side_of s b).count (side_of s b).prices) (side_of s b).count (best_price other) d.price

    act-fits : (a : DeltaAction) → EditFits (edit_of (act a)) (side_of s b).count
    act-fits Set =
        by (meets s d.price (best_price other)) (λ e. rw e p.own.few)
        (λ e. rw e (set-fits s d.price (side_of s b) w.own p.own.few))
    act-fits Remove = remove-fits s d.price (side_of s b) w.own p.own.few

    act_done : (a : DeltaAction) → is_price d.price ≡ true → carried s (act a) b d ≡ placed_on s b d.sequence (acted a s l mine)
    act_done Set h =
        let t = side_of s b in
        let new = set_level s l mine in
        let after = set_apart s other p.rest.limits l (priced d.price h) mine p.own.limits p.apart in
        by (meets s d.price (best_price other))
        (λ e.
        rw (e, refusal-carried s (inverted s d.price (best_price other)) b d, placed-crossed b d.sequence new s (rw e at after), set-best s other p.rest.limits l (priced d.price h) mine p.own.limits p.apart e))
        (λ e.
        by (leb (length new) max_levels)
        (λ k.
        let few : length new ≤ max_levels = leb-true _ _ k in
        rw (e, set_some s t w.own p.own l few, set-edited s t w.own p.own l few, placed_done b d.sequence new s p w (rw e at after) few))
        (λ k.
        let many : max_levels < length new = leb-false _ _ k in
        rw (e, set_full s t w.own p.own l many, refusal-carried s R.FullSide b d, placed-full b d.sequence new s p (rw e at after) many)))
    act_done Remove h =
        let new = remove_level d.price mine in
        let after = remove_apart s other p.rest.limits d.price mine p.own.limits p.own.order p.apart in
        let few : length new ≤ max_levels = omega (arith, remove-length d.price mine, levels_few (side_of s b), p.own.few) in
        rw (remove-edited s (side_of s b) w.own p.own l d.price, placed_done b d.sequence new s p w after few)

    -- the whole step: its edit fits the rows
    pub step_fits : EditFits (edit_of (step_on s b d)) (side_of s b).count
    unfolding step_of
    step_fits =
        by (delta_fits d.action d.price d.quantity)
        (λ e.
        rw e
        (by (ltb b.sequence last_sequence)
        (λ f. rw f (by (eqb d.sequence (b.sequence + 1)) (λ g. rw (g, top_price) (act-fits d.action)) (λ g. rw g p.own.few)))
        (λ f. rw f p.own.few)))
        (λ e. rw e p.own.few)

    -- and carried out it is the change
    pub step_done : d.side ≡ s → carried s (step_on s b d) b d ≡ tried b d
    unfolding step_of tried
    step_done own =
        by (delta_fits d.action d.price d.quantity)
        (λ e.
        rw e
        (by (ltb b.sequence last_sequence)
        (λ f.
        rw f
        (by (eqb d.sequence (b.sequence + 1))
        (λ g. rw (g, on-side s b d own, top_price) (act_done d.action (fits-price d.action d.price d.quantity e)))
        (λ g. rw g (refusal-carried s (R.SequenceMismatch (b.sequence + 1) d.sequence) b d))))
        (λ f. rw f (refusal-carried s R.LastSequence b d))))
        (λ e. rw e (refusal-carried s R.OutOfLimits b d))

-- a delta that its own numbers refuse leaves a book as it was
pub refused-kept :
    {b : OrderBook} → Tested b → (d : BookDelta) (why : Refusal) → Admission (Err why) b.sequence d → record { book = b; reply = refuse why } ≡ tried b d
refused-kept {b} t d why told =
    let s = d.side in
    sym (refusal-carried s why b d) ∙ ap (λ (st : Result Edit Refusal). carried s st b d) (sym (told s _ _ _)) ∙ step_done s b (sides s b t.book.is) (both-rows s t) d refl
