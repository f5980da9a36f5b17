-- What a frame's line is no longer once it is damaged: no whole frame's line.
use Prim.Native.Nat.{ℕ, ◌%◌, ◌<◌}
use mathlib.Core.Path.{◌≡◌, refl, sym, ap, ◌∙◌}
use mathlib.Core.List.{List, [], ◌∷◌, ◌++◌, append_assoc}
use native.Mathlib.Omega.{arith}
use lib.ListN.{length, get_or, set, take, drop, length-append, length-drop, take-append-drop}
use lib.Seq.{get_or-set_same}
use Rattle.types.specs.Named.{side_number}
use Rattle.types.specs.declared.PriceLevel.{PriceLevel}
use Rattle.deltas.specs.Delta.{action_number}
use Rattle.wire.specs.Wire.{line_feed, digits_of, check_byte, line}
use Rattle.wire.proofs.Bytes.{AllBytes, bytes, fields_are_bytes, checked, check_sum}
use Rattle.wire.proofs.Taken.{one-digit, goes_on, same_front}
use Rattle.frames.specs.Frames.{Frame, delta, snapshot, level_bytes, bytes_of, encode, digits, IsWhole}
use Rattle.frames.proofs.Whole.{snapshot_facts, length-levels}

levels_are_bytes : (ls : List PriceLevel) (after : List ℕ) → AllBytes after → AllBytes (level_bytes ls after)
levels_are_bytes [] after h = h
levels_are_bytes (l ∷ ls) after h =
    fields_are_bytes (bytes 4 l.price ∷ bytes 4 l.quantity ∷ []) (level_bytes ls after) (levels_are_bytes ls after h)

all-bytes : (f : Frame) → AllBytes (bytes_of f)
all-bytes (delta d) = fields_are_bytes (bytes 1 1 ∷ bytes 1 (side_number d.side) ∷ bytes 1 (action_number d.action) ∷ bytes 4 d.price ∷ bytes 4 d.quantity ∷ bytes 8 d.sequence ∷ []) [] tt
all-bytes (snapshot s) =
    fields_are_bytes (bytes 1 2 ∷ bytes 8 s.sequence ∷ bytes 1 (length s.bids) ∷ bytes 1 (length s.asks) ∷ []) (level_bytes s.bids (level_bytes s.asks []))
    (levels_are_bytes s.bids (level_bytes s.asks []) (levels_are_bytes s.asks [] tt))

checked_bytes : (f : Frame) → AllBytes (bytes_of f ++ check_byte (bytes_of f) ∷ [])
checked_bytes f = checked (bytes_of f) (all-bytes f)

-- the first byte and the counts tell how long a frame is
same_length : (f g : Frame) → IsWhole f → IsWhole g → (us vs : List ℕ) → bytes_of f ++ us ≡ bytes_of g ++ vs → length (bytes_of f) ≡ length (bytes_of g)
same_length (delta d) (delta d') w v us vs e = refl
same_length (delta d) (snapshot s) w v us vs e = let z : ◌≡◌ {A = ℕ} 1 2 = cc in omega arith
same_length (snapshot s) (delta d) w v us vs e = let z : ◌≡◌ {A = ℕ} 1 2 = cc in omega arith
same_length (snapshot s) (snapshot t) w v us vs e =
    let x = snapshot_facts s w in
    let y = snapshot_facts t v in
    let b : length s.bids % 256 ≡ length t.bids % 256 = cc in
    let a : length s.asks % 256 ≡ length t.asks % 256 = cc in
    let s₁ = length-levels s.bids (level_bytes s.asks []) in
    let s₂ = length-levels s.asks [] in
    let t₁ = length-levels t.bids (level_bytes t.asks []) in
    let t₂ = length-levels t.asks [] in
    omega arith

pub encode-digits : (f : Frame) → encode f ≡ digits f ++ line_feed ∷ []
unfolding encode digits line
encode-digits f = refl

no_more : (ws : List ℕ) → length ws ≡ 0 → digits_of ws ++ line_feed ∷ [] ≡ line_feed ∷ []
no_more [] h = refl
no_more (w ∷ ws) h = absurd (omega arith)

-- what begins with a frame's digits is a frame's line only if just the line feed follows
pub only_feed : (f g : Frame) → IsWhole f → IsWhole g → (zs : List ℕ) → digits f ++ zs ≡ encode g → zs ≡ line_feed ∷ []
unfolding digits encode line
only_feed f g w v zs e =
    let x = bytes_of f ++ check_byte (bytes_of f) ∷ [] in
    let r = goes_on x (bytes_of g ++ check_byte (bytes_of g) ∷ []) zs (checked_bytes f) (checked_bytes g) e in
    let h = same_length f g w v (check_byte (bytes_of f) ∷ r.0) (check_byte (bytes_of g) ∷ []) (sym (append_assoc (bytes_of f) (check_byte (bytes_of f) ∷ []) r.0) ∙ r.1) in
    let l = simp length-append at (ap length r.1) in
    r.2 ∙ no_more r.0 (omega arith)

-- a digit replaced by another byte
pub replaced_damaged : (f g : Frame) (i c : ℕ) → i < length (digits f) → (get_or (digits f) i 0 ≡ c → ⊥) → set (digits f) i c ++ line_feed ∷ [] ≡ encode g → ⊥
unfolding digits
replaced_damaged f g i c h other e =
    let e' : set (digits f) i c ≡ digits g = same_front (set (digits f) i c) (digits g) line_feed (e ∙ encode-digits g) in
    let same : digits f ≡ digits g =
    ap digits_of (one-digit (bytes_of f ++ check_byte (bytes_of f) ∷ []) (bytes_of g ++ check_byte (bytes_of g) ∷ []) i c (checked_bytes f) (checked_bytes g) e'
    (check_sum (bytes_of f) ∙ sym (check_sum (bytes_of g)))) in
    other (ap (λ (l : List ℕ). get_or l i 0) (same ∙ sym e') ∙ get_or-set_same (digits f) i c 0 h)

-- the end cut off
pub cut_damaged : (f g : Frame) → IsWhole f → IsWhole g → (n : ℕ) → n < length (digits f) → take n (digits f) ++ line_feed ∷ [] ≡ encode g → ⊥
cut_damaged f g w v n h e =
    let e' : take n (digits f) ≡ digits g = same_front (take n (digits f)) (digits g) line_feed (e ∙ encode-digits g) in
    let z : drop n (digits f) ++ line_feed ∷ [] ≡ line_feed ∷ [] =
    only_feed g f v w (drop n (digits f) ++ line_feed ∷ [])
    (sym (append_assoc (digits g) (drop n (digits f)) (line_feed ∷ []))
    ∙ ap (λ (l : List ℕ). l ++ drop n (digits f) ++ line_feed ∷ []) (sym e')
    ∙ ap (λ (l : List ℕ). l ++ line_feed ∷ []) (take-append-drop n (digits f))
    ∙ sym (encode-digits f)) in
    let l = simp (length-append, length-drop) at (ap length z) in
    omega arith
