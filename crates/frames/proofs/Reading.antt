-- Reading is the inverse of writing: a line reads as a frame exactly where the frame is whole and the line is its own.
use Prim.Native.Nat.{ℕ, suc, ◌+◌, ◌*◌}
use mathlib.Core.Bool.{Bool, true, false, cond, ◌&&◌, false≢true, and-eq-true_iff}
use mathlib.Core.Option.{Option, none, some}
use mathlib.Core.Path.{◌≡◌, refl, sym, ap, ap₂, ◌∙◌}
use mathlib.Core.List.{List, [], ◌∷◌, ◌++◌}
use native.Mathlib.Omega.{arith}
use borrow.Author.Tests.{le-leb, eqb-true, eq-eqb}
use lib.Dec.{eqb, leb}
use lib.ListN.{length, drop}
use lib.Seq.{drop-drop}
use Rattle.types.specs.Limits.{max_digits}
use Rattle.types.specs.Named.{side_number, side_named}
use Rattle.types.specs.Replies.{done, refused}
use Rattle.types.specs.declared.Side.{Side}
use Rattle.types.specs.declared.Side.TheVariants.{Bid, Ask}
use Rattle.types.specs.declared.PriceLevel.{PriceLevel}
use Rattle.deltas.specs.declared.BookDelta.{BookDelta}
use Rattle.deltas.specs.declared.DeltaAction.{DeltaAction}
use Rattle.deltas.specs.declared.DeltaAction.TheVariants.{Set, Remove}
use Rattle.deltas.specs.Delta.{delta_fits, action_number, action_named}
use Rattle.wire.specs.Wire.{line_feed, digit, value, digits_of, be, check_byte, line, field}
use Rattle.wire.proofs.Bytes.{spelt-be}
use Rattle.frames.specs.Frames.{Snapshot, Frame, delta, snapshot, level_bytes, bytes_of, encode, is_whole, IsWhole}
use Rattle.frames.specs.Decode.{delta_in, levels_in, snapshot_in, frame_in, same, if_line_of, decode, delta_read}
use Rattle.frames.proofs.Whole.{DeltaFacts, delta_facts, whole-fits, SnapshotFacts, snapshot_facts, InWords, short}

-- ── the same bytes ──

pub same_true : (xs ys : List ℕ) → same xs ys ≡ true → xs ≡ ys
same_true [] [] e = refl
same_true [] (y ∷ ys) e = cc
same_true (x ∷ xs) [] e = cc
same_true (x ∷ xs) (y ∷ ys) e =
    let a = (and-eq-true_iff (eqb x y) (same xs ys)).0 e in
    let p : x ≡ y = eqb-true x y a.0 in
    let q : xs ≡ ys = same_true xs ys a.1 in
    cc

pub same_self : (xs : List ℕ) → same xs xs ≡ true
same_self [] = refl
same_self (x ∷ xs) = rw (eq-eqb x x refl) (same_self xs)

-- a test that tells whether the bytes are the same
pub same-told : (r : Bool) (xs ys : List ℕ) → (r ≡ true → xs ≡ ys) → (xs ≡ ys → r ≡ true) → r ≡ same xs ys
same-told true xs ys told back = sym (rw (told refl) (same_self ys))
same-told false xs ys told back = go (same xs ys) refl
  where
    go : (t : Bool) → same xs ys ≡ t → false ≡ same xs ys
    go true e = absurd (false≢true (back (same_true xs ys e)))
    go false e = sym e

-- ── a line that is a frame's reads as the frame ──

side_back : (s : Side) → side_named (field 0 1 (digits_of (be 1 (side_number s) []))) ≡ s
unfolding digit value
side_back Bid = refl
side_back Ask = refl

action_back : (a : DeltaAction) → action_named (field 0 1 (digits_of (be 1 (action_number a) []))) ≡ a
unfolding digit value
action_back Set = refl
action_back Remove = refl

delta-back : (d : BookDelta) → DeltaFacts d → delta_in (encode (delta d)) ≡ d
unfolding encode line
delta-back d w =
    λ i. record {
      side = side_back d.side i;
      price = spelt-be 4 d.price [] (omega (arith, w.price_limits.1)) i;
      quantity = spelt-be 4 d.quantity [] (omega (arith, w.quantity_limit)) i;
      action = action_back d.action i;
      sequence = spelt-be 8 d.sequence [] (omega (arith, w.sequence_limit)) i;
    }

pub levels_append : (ls : List PriceLevel) (after c : List ℕ) → level_bytes ls after ++ c ≡ level_bytes ls (after ++ c)
levels_append [] after c = refl
levels_append (l ∷ ls) after c = ap (λ (x : List ℕ). be 4 l.price (be 4 l.quantity x)) (levels_append ls after c)

levels_read : (ls : List PriceLevel) (after u : List ℕ) → InWords ls → levels_in (length ls) (digits_of (level_bytes ls after) ++ u) ≡ ls
levels_read [] after u h = refl
levels_read (l ∷ ls) after u h =
    λ i. record { price = spelt-be 4 l.price [] h.0 i; quantity = spelt-be 4 l.quantity [] h.1 i } ∷ levels_read ls after u h.2 i

-- the digits after a side's levels
levels_past : (ls : List PriceLevel) (after u : List ℕ) → drop (16 * length ls) (digits_of (level_bytes ls after) ++ u) ≡ digits_of after ++ u
levels_past [] after u = refl
levels_past (l ∷ ls) after u =
    let e : 16 * suc (length ls) ≡ 16 + 16 * length ls = omega arith in
    let x = digits_of (level_bytes (l ∷ ls) after) ++ u in
    ap (λ (n : ℕ). drop n x) e ∙ sym (drop-drop (16 * length ls) 16 x) ∙ levels_past ls after u

pub snapshot_back : (s : Snapshot) → SnapshotFacts s → snapshot_in (encode (snapshot s)) ≡ s
unfolding encode line
snapshot_back s w =
    let c = check_byte (bytes_of (snapshot s)) ∷ [] in
    let u = line_feed ∷ [] in
    let l = encode (snapshot s) in
    let body : digits_of (level_bytes s.bids (level_bytes s.asks []) ++ c) ++ u ≡ digits_of (level_bytes s.bids (level_bytes s.asks c)) ++ u =
    ap (λ (x : List ℕ). digits_of x ++ u) (levels_append s.bids (level_bytes s.asks []) c ∙ ap (level_bytes s.bids) (levels_append s.asks [] c)) in
    let b = spelt-be 1 (length s.bids) [] (omega (arith, w.few_bids)) in
    let a = spelt-be 1 (length s.asks) [] (omega (arith, w.few_asks)) in
    let past = sym (drop-drop (16 * field 9 1 l) 22 l) ∙ ap₂ (λ (n : ℕ) (x : List ℕ). drop (16 * n) x) b body ∙ levels_past s.bids (level_bytes s.asks c) u in
    λ i. record {
      sequence = spelt-be 8 s.sequence [] (omega (arith, w.sequence_limit)) i;
      bids = (ap₂ levels_in b body ∙ levels_read s.bids (level_bytes s.asks c) u w.bid-words) i;
      asks = (ap₂ levels_in a past ∙ levels_read s.asks c u w.ask-words) i;
    }

frame_back : (f : Frame) → IsWhole f → frame_in (encode f) ≡ f
unfolding encode line digit value
frame_back (delta d) w = ap delta (delta-back d (delta_facts d w))
frame_back (snapshot s) w = ap snapshot (snapshot_back s (snapshot_facts s w))

-- a frame's line reads as the frame
pub reads : (f : Frame) → IsWhole f → decode (encode f) ≡ some f
unfolding decode if_line_of
reads f w = rw (le-leb _ _ (short f w), frame_back f w, w, same_self (encode f))

passed : (t : Bool) (o : Option Frame) (f : Frame) → cond t o none ≡ some f → (t ≡ true) × (o ≡ some f)
passed true o f e = (refl, e)
passed false o f e = let z : ◌≡◌ {A = ℕ} 0 1 = cc in absurd (omega arith)

-- a line that reads as a frame is that frame's, and the frame is whole
pub only : (l : List ℕ) (f : Frame) → decode l ≡ some f → IsWhole f × (l ≡ encode f)
unfolding decode if_line_of
only l f e =
    let g = frame_in l in
    let p = passed (leb (length l) (max_digits + 1)) (cond (is_whole g && same l (encode g)) (some g) none) f e in
    let q = passed (is_whole g && same l (encode g)) (some g) f p.1 in
    let r = (and-eq-true_iff (is_whole g) (same l (encode g))).0 q.0 in
    let m : g ≡ f = cc q.1 in
    (rw m at r.0, same_true l (encode g) r.1 ∙ ap encode m)

-- each frame has one line, and no two frames share one
pub one_line : (f g : Frame) → IsWhole f → IsWhole g → encode f ≡ encode g → f ≡ g
one_line f g w v e = let h : some f ≡ some g = sym (reads f w) ∙ ap decode e ∙ reads g v in cc

-- what is no whole frame's line is damaged
pub damaged : (l : List ℕ) → ((g : Frame) → IsWhole g → l ≡ encode g → ⊥) → decode l ≡ none
damaged l h = go (decode l) refl
  where
    go : (o : Option Frame) → decode l ≡ o → decode l ≡ none
    go none e = e
    go (some g) e = absurd (h g (only l g e).0 (only l g e).1)

-- ── a line that is tried as a delta's ──

-- the delta in it is not whole, or has another line
pub no_delta : (l : List ℕ) → (IsWhole (delta (delta_in l)) → l ≡ encode (delta (delta_in l)) → ⊥) → delta_read (decode l) ≡ refused 12 []
no_delta l h = go (decode l) refl
  where
    go : (o : Option Frame) → decode l ≡ o → delta_read o ≡ refused 12 []
    go none e = refl
    go (some (snapshot s)) e = refl
    go (some (delta d)) e =
        let w = only l (delta d) e in
        let b : delta_in l ≡ d = ap delta_in w.1 ∙ delta-back d (delta_facts d w.0) in
        absurd (h (rw b w.0) (rw b w.1))

module _ (l : List ℕ) (d : BookDelta) (in-line : d ≡ delta_in l) where
  pub delta_read_lem : is_whole (delta d) ≡ true → same l (encode (delta d)) ≡ true → done d ≡ delta_read (decode l)
  delta_read_lem w e = sym (ap delta_read (ap decode (same_true l (encode (delta d)) e) ∙ reads (delta d) w))

  pub not-whole : is_whole (delta d) ≡ false → refused 12 [] ≡ delta_read (decode l)
  not-whole h = sym (no_delta l (λ w e. false≢true (sym h ∙ ap (λ (x : BookDelta). is_whole (delta x)) in-line ∙ w)))

-- ── a delta that was read ──

-- is what the line reads as
pub as_read : (o : Option Frame) (d : BookDelta) → done d ≡ delta_read o → o ≡ some (delta d)
as_read none d e = let z : ◌≡◌ {A = ℕ} 0 1 = cc in absurd (omega arith)
as_read (some (delta x)) d e = let z : x ≡ d = cc in ap (λ (y : BookDelta). some (delta y)) z
as_read (some (snapshot s)) d e = let z : ◌≡◌ {A = ℕ} 0 1 = cc in absurd (omega arith)

-- and its numbers are within their limits
pub read_fits : (l : List ℕ) (d : BookDelta) → done d ≡ delta_read (decode l) → delta_fits d.action d.price d.quantity ≡ true
read_fits l d e = whole-fits d (only l (delta d) (as_read (decode l) d e)).0
