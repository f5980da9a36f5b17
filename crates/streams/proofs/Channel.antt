-- What is read from a stream of pieces: exactly the frames that came as sent, in their places, and damage elsewhere.
use Prim.Native.Nat.{ℕ, zero, suc, ◌/◌, ◌%◌, ◌<◌}
use mathlib.Core.Option.{Option, none, some}
use mathlib.Core.Path.{◌≡◌, refl, sym, ap, ◌∙◌}
use mathlib.Core.Bool.{false}
use mathlib.Core.List.{List, [], ◌∷◌, ◌++◌, append_assoc, append-nil, map, tail}
use native.Mathlib.Omega.{arith}
use borrow.Author.Tests.{ne_eqb, eqb-false}
use lib.Dec.{eqb}
use lib.ListN.{set, take}
use Rattle.wire.specs.Wire.{line_feed, digit, digits_of, check_byte}
use Rattle.frames.specs.Frames.{Frame, delta, snapshot, bytes_of, digits, IsWhole}
use Rattle.frames.specs.Decode.{decode}
use Rattle.types.specs.Bytes.{onto}
use Rattle.streams.specs.Streams.{lines}
use Rattle.streams.specs.Channel.{Piece, sent, replaced, cut, joined, IsDamage, Pieces, piece_bytes, stream, seen}
use Rattle.streams.specs.Reading.{NeverReads, ReadsAsSeen}
use Rattle.frames.proofs.Reading.{reads, damaged}
use Rattle.streams.proofs.Damage.{encode-digits, only_feed, replaced_damaged, cut_damaged}
use Rattle.streams.proofs.Splits.{NoFeed, no_feed_set, no_feed_take, ontos, ontos_cons, ontos_nil, lines_on, lines-ended}

-- ── a frame's digits ──

no_feed_digits : (bs : List ℕ) → NoFeed (digits_of bs)
unfolding digit
no_feed_digits [] = tt
no_feed_digits (b ∷ bs) = (ne_eqb (digit (b / 16)) line_feed (λ e. omega arith), (ne_eqb (digit (b % 16)) line_feed (λ e. omega arith), no_feed_digits bs))

no_feed : (f : Frame) → NoFeed (digits f)
unfolding digits
no_feed f = no_feed_digits (bytes_of f ++ check_byte (bytes_of f) ∷ [])

-- it begins with a byte that is no line feed
abbrev Begins : List ℕ → Type 0
Begins [] = ⊥
Begins (c ∷ cs) = eqb c line_feed ≡ false

begins_append : (xs ys : List ℕ) → Begins xs → Begins (xs ++ ys)
begins_append [] ys h = absurd h
begins_append (x ∷ xs) ys h = h

begins_set : (xs : List ℕ) (i c : ℕ) → Begins xs → (c ≡ line_feed → ⊥) → Begins (set xs i c)
begins_set [] i c h e = absurd h
begins_set (x ∷ xs) zero c h e = ne_eqb c line_feed e
begins_set (x ∷ xs) (suc i) c h e = h

begins_take : (n : ℕ) (xs : List ℕ) → 0 < n → Begins xs → Begins (take n xs)
begins_take zero xs p h = absurd (omega arith)
begins_take (suc n) [] p h = absurd h
begins_take (suc n) (x ∷ xs) p h = h

digits_begin : (f : Frame) → Begins (digits f)
unfolding digits digit
digits_begin (delta d) = refl
digits_begin (snapshot s) = refl

piece_begins : (p : Piece) → IsDamage p → Begins (piece_bytes p)
piece_begins (sent f) h = rw encode-digits (begins_append (digits f) (line_feed ∷ []) (digits_begin f))
piece_begins (replaced f i c) h = begins_append (set (digits f) i c) (line_feed ∷ []) (begins_set (digits f) i c (digits_begin f) h.2)
piece_begins (cut f n) h = begins_append (take n (digits f)) (line_feed ∷ []) (begins_take n (digits f) h.0 (digits_begin f))
piece_begins (joined f) h = digits_begin f

-- where a stream begins so, so does its first line
first_begins : (s : List ℕ) → Begins s → (l : List ℕ) × (ls : List (List ℕ)) × (lines s ≡ l ∷ ls) × Begins l
first_begins [] h = absurd h
first_begins (c ∷ cs) h = rw h (go (lines cs))
  where
    go : (r : List (List ℕ)) → (l : List ℕ) × (ls : List (List ℕ)) × (onto c r ≡ l ∷ ls) × Begins l
    go [] = (c ∷ [], [], refl, h)
    go (l ∷ ls) = (c ∷ l, ls, refl, h)

begins_alone : (xs : List ℕ) → Begins xs → ontos xs [] ≡ xs ∷ []
begins_alone [] h = absurd h
begins_alone (x ∷ xs) h = ontos_nil x xs

not_feed : (l : List ℕ) → Begins l → l ≡ line_feed ∷ [] → ⊥
not_feed [] b e = b
not_feed (x ∷ xs) b e = let z : x ≡ line_feed = cc in eqb-false x line_feed b z

-- ── the stream ──

-- a line that its line feed ends, and what follows
ended : (xs rest : List ℕ) (o : Option Frame) (os : List (Option Frame)) → NoFeed xs → decode (xs ++ line_feed ∷ []) ≡ o → map decode (lines rest) ≡ os
    → map decode (lines (xs ++ line_feed ∷ [] ++ rest)) ≡ o ∷ os
ended xs rest o os n e ih =
    ap (λ (l : List ℕ). map decode (lines l)) (append_assoc xs (line_feed ∷ []) rest) ∙ ap (map decode) (lines-ended xs rest n) ∙ cc

-- digits without their line feed
unended : (f : Frame) → IsWhole f → decode (digits f) ≡ none
unended f w =
    damaged (digits f) (λ g v e.
    let z : ◌≡◌ {A = List ℕ} [] (line_feed ∷ []) = only_feed f g w v [] (append-nil (digits f) ∙ e) in
    let z' : ◌≡◌ {A = ℕ} 0 1 = cc in omega arith)

-- a line whose line feed is lost takes the next line with it
run_on : (f : Frame) (ps : List Piece) → IsWhole f → Pieces ps → map decode (lines (stream ps)) ≡ seen ps
    → map decode (lines (digits f ++ stream ps)) ≡ none ∷ tail (seen ps)
run_on f [] w h ih =
    ap (map decode) (lines_on (digits f) [] (no_feed f) ∙ begins_alone (digits f) (digits_begin f)) ∙ ap (λ (o : Option Frame). o ∷ []) (unended f w)
run_on f (p ∷ ps) w h ih =
    let r = first_begins (stream (p ∷ ps)) (begins_append (piece_bytes p) (stream ps) (piece_begins p h.0)) in
    let t : map decode r.1 ≡ tail (seen (p ∷ ps)) = ap tail (sym (ap (map decode) r.2) ∙ ih) in
    ap (map decode) (lines_on (digits f) (stream (p ∷ ps)) (no_feed f) ∙ ap (ontos (digits f)) r.2 ∙ ontos_cons (digits f) r.0 r.1)
    ∙ ap (λ (o : Option Frame). o ∷ map decode r.1) (damaged (digits f ++ r.0) (λ g v e. not_feed r.0 r.3 (only_feed f g w v r.0 e)))
    ∙ ap (λ (os : List (Option Frame)). none ∷ os) t

-- what came damaged reads as nothing
pub never_reads : NeverReads
never_reads (sent f) h d w = absurd d
never_reads (replaced f i c) h d w = damaged (set (digits f) i c ++ line_feed ∷ []) (λ g v e. replaced_damaged f g i c h.0 h.1 e)
never_reads (cut f n) h d w = damaged (take n (digits f) ++ line_feed ∷ []) (λ g v e. cut_damaged f g w v n h.1 e)
never_reads (joined f) h d w = unended f w

-- the lines of the stream read as what is seen
pub read_stream : ReadsAsSeen
read_stream [] h = refl
read_stream (sent f ∷ ps) h =
    rw encode-digits (ended (digits f) (stream ps) (some f) (seen ps) (no_feed f) (ap decode (sym (encode-digits f)) ∙ reads f h.1) (read_stream ps h.2))
read_stream (replaced f i c ∷ ps) h =
    ended (set (digits f) i c) (stream ps) none (seen ps) (no_feed_set (digits f) i c (no_feed f) (ne_eqb c line_feed h.0.2))
    (never_reads (replaced f i c) h.0 tt h.1) (read_stream ps h.2)
read_stream (cut f n ∷ ps) h =
    ended (take n (digits f)) (stream ps) none (seen ps) (no_feed_take n (digits f) (no_feed f)) (never_reads (cut f n) h.0 tt h.1) (read_stream ps h.2)
read_stream (joined f ∷ ps) h = run_on f ps h.1 h.2 (read_stream ps h.2)
