-- What is known of a whole frame: its numbers fit their bytes, a side has at most 128 levels, and its line at most 4,120 digits.
use Prim.Native.Nat.{ℕ, ◌+◌, ◌*◌, ◌^◌, ◌<◌, ◌≤◌}
use mathlib.Core.Bool.{Bool, true, ◌&&◌, and-eq-true_iff, and-true, and_assoc}
use mathlib.Core.Path.{◌≡◌, refl, sym, ap, ◌∙◌}
use mathlib.Core.List.{List, [], ◌∷◌}
use native.Mathlib.Omega.{arith}
use borrow.Author.Tests.{leb-true, le-leb, eqb-true}
use lib.Dec.{eqb, leb}
use lib.ListN.{length, length-append}
use Rattle.types.specs.Limits.{is_price, is_quantity, last_sequence, max_levels, max_price, max_quantity, max_digits}
use Rattle.types.specs.declared.Side.TheVariants.{Bid, Ask}
use Rattle.types.specs.declared.PriceLevel.{PriceLevel}
use Rattle.levels.specs.Formed.{every, in_limits}
use Rattle.levels.proofs.Tables.{levels-back}
use Rattle.deltas.specs.declared.BookDelta.{BookDelta}
use Rattle.deltas.specs.declared.DeltaAction.{DeltaAction}
use Rattle.deltas.specs.declared.DeltaAction.TheVariants.{Set, Remove}
use Rattle.orderbook.specs.Book.{is_book}
use Rattle.orderbook.proofs.Books.{a_book}
use Rattle.deltas.specs.Delta.{delta_fits}
use Rattle.wire.specs.Wire.{line}
use Rattle.wire.proofs.Bytes.{length_digits}
use Rattle.frames.specs.Frames.{Snapshot, Frame, delta, snapshot, level_bytes, book_of, quantity_fits, encode, is_whole, IsWhole}

-- ── a delta ──

-- a whole delta's numbers
pub record DeltaFacts (d : BookDelta) : Type 0 where
  pub price_limits : (1 ≤ d.price) × (d.price ≤ max_price)
  pub quantity_limit : d.quantity ≤ max_quantity
  pub quantity_fits_lem : quantity_fits d.action d.quantity ≡ true
  pub sequence_limit : d.sequence ≤ last_sequence

quantity_most : (a : DeltaAction) (q : ℕ) → quantity_fits a q ≡ true → q ≤ max_quantity
quantity_most Set q h = leb-true _ _ h
quantity_most Remove q h = omega (arith, eqb-true q 0 h)

pub delta_facts : (d : BookDelta) → IsWhole (delta d) → DeltaFacts d
unfolding is_whole
delta_facts d h =
    let a = (and-eq-true_iff (is_price d.price) _).0 h in
    let b = (and-eq-true_iff (leb 1 d.price) _).0 a.0 in
    let c = (and-eq-true_iff (quantity_fits d.action d.quantity) _).0 a.1 in
    record {
      price_limits = (leb-true _ _ b.0, leb-true _ _ b.1);
      quantity_limit = quantity_most d.action d.quantity c.0;
      quantity_fits_lem = c.0;
      sequence_limit = leb-true _ _ c.1;
    }

-- a Remove's quantity is 0
abbrev pub emptied : DeltaAction → ℕ → Bool
emptied Set q = true
emptied Remove q = eqb q 0

-- a delta is whole if it fits, and its quantity is 0 where it is a Remove
pub whole-delta : (d : BookDelta) → d.sequence ≤ last_sequence → is_whole (delta d) ≡ delta_fits d.action d.price d.quantity && emptied d.action d.quantity
unfolding is_whole
whole-delta d h = rw (le-leb _ _ h) (go d.action d.price d.quantity)
  where
    go : (a : DeltaAction) (p q : ℕ) → is_price p && (quantity_fits a q && true) ≡ delta_fits a p q && emptied a q
    go Set p q = sym (and_assoc (is_price p) (is_quantity q) true)
    go Remove p q = ap (λ (t : Bool). is_price p && t) (and-true (eqb q 0))

-- so a whole delta fits
pub whole-fits : (d : BookDelta) → IsWhole (delta d) → delta_fits d.action d.price d.quantity ≡ true
whole-fits d w =
    ((and-eq-true_iff (delta_fits d.action d.price d.quantity) _).0 (sym (whole-delta d (delta_facts d w).sequence_limit) ∙ w)).0

-- ── a snapshot ──

-- each price and quantity fits 4 bytes
abbrev pub InWords : List PriceLevel → Type 0
InWords [] = Unit {0}
InWords (l ∷ ls) = (l.price < 256 ^ 4) × (l.quantity < 256 ^ 4) × InWords ls

in_words : (ls : List PriceLevel) → every in_limits ls ≡ true → InWords ls
unfolding every
in_words [] h = tt
in_words (l ∷ ls) h =
    let a = (and-eq-true_iff (in_limits l) _).0 h in
    let b = (and-eq-true_iff (is_price l.price) _).0 a.0 in
    let p = leb-true l.price max_price ((and-eq-true_iff (leb 1 l.price) _).0 b.0).1 in
    let q = leb-true l.quantity max_quantity b.1 in
    (omega arith, omega arith, in_words ls a.1)

-- a whole snapshot's numbers
pub record SnapshotFacts (s : Snapshot) : Type 0 where
  pub few_bids : length s.bids ≤ max_levels
  pub few_asks : length s.asks ≤ max_levels
  pub bid-words : InWords s.bids
  pub ask-words : InWords s.asks
  pub sequence_limit : s.sequence ≤ last_sequence

pub snapshot_facts : (s : Snapshot) → IsWhole (snapshot s) → SnapshotFacts s
unfolding is_whole
snapshot_facts s h =
    let a = (and-eq-true_iff (is_book (book_of s)) _).0 h in
    let b = a_book (book_of s) a.0 in
    record {
      few_bids = (b.side Bid).few;
      few_asks = (b.side Ask).few;
      bid-words = in_words s.bids (rw levels-back at (b.side Bid).limits);
      ask-words = in_words s.asks (rw levels-back at (b.side Ask).limits);
      sequence_limit = leb-true _ _ a.1;
    }

-- ── lengths ──

pub length-levels : (ls : List PriceLevel) (after : List ℕ) → length (level_bytes ls after) ≡ 8 * length ls + length after
length-levels [] after = omega arith
length-levels (l ∷ ls) after = let h = length-levels ls after in omega arith

pub delta-length : (d : BookDelta) → length (encode (delta d)) ≡ 41
unfolding encode line
delta-length d = refl

pub snapshot_length : (s : Snapshot) → length (encode (snapshot s)) ≡ 25 + 16 * (length s.bids + length s.asks)
unfolding encode line
snapshot_length s =
    let b = length-levels s.bids (level_bytes s.asks []) in
    let a = length-levels s.asks [] in
    simp (length-append, length_digits) (omega arith)

pub short : (f : Frame) → IsWhole f → length (encode f) ≤ max_digits + 1
short (delta d) w = omega (arith, delta-length d)
short (snapshot s) w = let x = snapshot_facts s w in let n = snapshot_length s in omega arith
