-- Why chunks print what the whole prints: lines split where a line ends, and bytes cut from a line that is too long leave it damaged.
use Prim.Native.Nat.{ℕ, zero, suc, ◌≤◌, ◌<◌}
use mathlib.Core.Bool.{true, false}
use mathlib.Core.Option.{none}
use mathlib.Core.Path.{◌≡◌, refl, sym, ap}
use mathlib.Core.List.{List, [], ◌∷◌, ◌++◌, map, append_assoc, append-nil}
use native.Mathlib.Omega.{arith}
use borrow.Author.Tests.{lt-leb, leb-true, leb-false}
use lib.Dec.{eqb, leb}
use lib.ListN.{length, take, drop, length-append}
use lib.Seq.{take_all, length-take-le}
use Rattle.types.proofs.Booleans.{by}
use Rattle.wire.specs.Wire.{line_feed}
use Rattle.frames.specs.Decode.{decode}
use Rattle.types.specs.Bytes.{onto}
use Rattle.streams.specs.Streams.{lines}
use Rattle.streams.proofs.Splits.{NoFeed, no_feed_take, ontos, ontos_cons, ontos_nil, lines_on}
use Rattle.receiver.specs.declared.Receiver.{Receiver}
use Rattle.receiver.specs.Turns.{Turn, start, taken, turns, heard}
use Rattle.printing.specs.Printed.{next, outcome_line, printed, counted, end_text}
use Rattle.chunks.specs.Chunks.{onward, whole_end, whole, too_long, kept, joined, fed, PrintsTheSame}

-- ── lines split where a line ends ──

onto_some : (c : ℕ) (ls : List (List ℕ)) → 0 < length (onto c ls)
onto_some c [] = omega arith
onto_some c (l ∷ ls) = omega arith

lines_some : (s : List ℕ) → 0 < length s → 0 < length (lines s)
lines_some [] h = absurd (omega arith)
lines_some (c ∷ cs) h = by (eqb c line_feed) (λ e. rw e (omega arith)) (λ e. rw e (onto_some c (lines cs)))

onto_append : (c : ℕ) (ls ms : List (List ℕ)) → 0 < length ls → onto c (ls ++ ms) ≡ onto c ls ++ ms
onto_append c [] ms h = absurd (omega arith)
onto_append c (l ∷ ls) ms h = refl

whole-within : (s : List ℕ) → whole_end s ≤ length s
whole-within [] = omega arith
whole-within (c ∷ cs) = by (eqb c line_feed) (λ e. let h = whole-within cs in rw e (omega arith)) (λ e. rw e (go (whole_end cs) (whole-within cs)))
  where
    go : (w : ℕ) → w ≤ length cs → onward w ≤ suc (length cs)
    go zero h = omega arith
    go (suc w) h = omega arith

pub lines-whole : (s t : List ℕ) → lines (s ++ t) ≡ lines (take (whole_end s) s) ++ lines (drop (whole_end s) s ++ t)
lines-whole [] t = refl
lines-whole (c ∷ cs) t =
    by (eqb c line_feed)
    (λ e. rw e (here (whole_end cs) e (lines-whole cs t)))
    (λ e. rw e (go (whole_end cs) e (lines-whole cs t) (whole-within cs)))
  where
    here : (w : ℕ) → eqb c line_feed ≡ true → lines (cs ++ t) ≡ lines (take w cs) ++ lines (drop w cs ++ t) →
        (c ∷ []) ∷ lines (cs ++ t) ≡ lines (c ∷ take w cs) ++ lines (drop w cs ++ t)
    here w e h = rw (e, h)

    go : (w : ℕ) → eqb c line_feed ≡ false → lines (cs ++ t) ≡ lines (take w cs) ++ lines (drop w cs ++ t) → w ≤ length cs →
        onto c (lines (cs ++ t)) ≡ lines (take (onward w) (c ∷ cs)) ++ lines (drop (onward w) (c ∷ cs) ++ t)
    go zero e h l = rw e
    go (suc w) e h l =
        let some : 0 < length (take (suc w) cs) = omega (arith, length-take-le (suc w) cs l) in
        rw (e, h) (onto_append c (lines (take (suc w) cs)) (lines (drop (suc w) cs ++ t)) (lines_some (take (suc w) cs) some))

-- what follows the last line feed has none
rest_no_feed : (s : List ℕ) → NoFeed (drop (whole_end s) s)
rest_no_feed [] = tt
rest_no_feed (c ∷ cs) = by (eqb c line_feed) (λ e. rw e (rest_no_feed cs)) (λ e. rw e (go (whole_end cs) e (rest_no_feed cs)))
  where
    go : (w : ℕ) → eqb c line_feed ≡ false → NoFeed (drop w cs) → NoFeed (drop (onward w) (c ∷ cs))
    go zero e h = (e, h)
    go (suc w) e h = h

-- ── a line that is too long ──

long_none : (l : List ℕ) → too_long ≤ length l → decode l ≡ none
unfolding decode
long_none l h = rw (lt-leb (length l) 4121 (omega arith))

ontos-alone : (s : List ℕ) → 0 < length s → ontos s [] ≡ s ∷ []
ontos-alone [] h = absurd (omega arith)
ontos-alone (x ∷ xs) h = ontos_nil x xs

-- the bytes cut from it change nothing that is read
cut_same : (t u : List ℕ) → NoFeed t → map decode (lines (take too_long t ++ u)) ≡ map decode (lines (t ++ u))
cut_same t u h = by (leb (length t) too_long)
    (λ e. rw (take_all too_long t (leb-true (length t) too_long e)))
    (λ e. rw (lines_on t u h, lines_on (take too_long t) u (no_feed_take too_long t h)) (go (lines u) (leb-false (length t) too_long e)))
  where
    go : (ls : List (List ℕ)) → too_long < length t → map decode (ontos (take too_long t) ls) ≡ map decode (ontos t ls)
    go [] far =
        let n : length (take too_long t) ≡ too_long = length-take-le too_long t (omega arith) in
        rw (ontos-alone t (omega arith), ontos-alone (take too_long t) (omega arith), long_none t (omega arith), long_none (take too_long t) (omega arith))
    go (l ∷ ls) far =
        let n : length (take too_long t) ≡ too_long = length-take-le too_long t (omega arith) in
        rw (
          ontos_cons t l ls,
          ontos_cons (take too_long t) l ls,
          long_none (t ++ l) (omega (arith, length-append t l)),
          long_none (take too_long t ++ l) (omega (arith, length-append (take too_long t) l)),
        )

-- ── what is read decides ──

taken-same : (r : Receiver) (l m : List ℕ) → decode l ≡ decode m → taken r l ≡ taken r m
unfolding taken
taken-same r l m e = rw e

turns_same : (r : Receiver) (ls ms : List (List ℕ)) → map decode ls ≡ map decode ms → (turns r ls ≡ turns r ms) × (heard r ls ≡ heard r ms)
unfolding turns heard
turns_same r [] [] e = (refl, refl)
turns_same r [] (m ∷ ms) e = let n : 0 ≡ suc (length (map decode ms)) = ap length e in absurd (omega arith)
turns_same r (l ∷ ls) [] e = let n : suc (length (map decode ls)) ≡ 0 = ap length e in absurd (omega arith)
turns_same r (l ∷ ls) (m ∷ ms) e =
    let f : decode l ≡ decode m = cc in
    let g : map decode ls ≡ map decode ms = cc in
    let h = taken-same r l m f in
    let i = turns_same (taken r m).receiver ls ms g in
    rw h (ap (λ (ts : List Turn). taken r m ∷ ts) i.0, i.1)

-- ── many lines ──

turns_append : (r : Receiver) (ls ms : List (List ℕ)) → turns r (ls ++ ms) ≡ turns r ls ++ turns (heard r ls) ms
unfolding turns heard
turns_append r [] ms = refl
turns_append r (l ∷ ls) ms = rw (turns_append (taken r l).receiver ls ms)

heard_append : (r : Receiver) (ls ms : List (List ℕ)) → heard r (ls ++ ms) ≡ heard (heard r ls) ms
unfolding heard
heard_append r [] ms = refl
heard_append r (l ∷ ls) ms = heard_append (taken r l).receiver ls ms

printed_append : (k : ℕ) (ts us : List Turn) → printed k (ts ++ us) ≡ printed k ts ++ printed (counted k ts) us
unfolding printed counted
printed_append k [] us = refl
printed_append k (t ∷ ts) us =
    rw (printed_append (next k) ts us) (sym (append_assoc (outcome_line (next k) t) (printed (next k) ts) (printed (counted (next k) ts) us)))

-- ── chunks ──

-- what is printed of a text by a receiver after k lines, with the end state
abbrev all : Receiver → ℕ → List ℕ → List ℕ
all r k s = printed k (turns r (lines s)) ++ end_text (heard r (lines s))

all_split :
    (r : Receiver) (k : ℕ) (s u : List ℕ) →
    all r k (s ++ u) ≡ printed k (turns r (lines (whole s))) ++ all (heard r (lines (whole s))) (counted k (turns r (lines (whole s)))) (kept s ++ u)
all_split r k s u =
    let w = lines (whole s) in
    let v = lines (drop (whole_end s) s ++ u) in
    let same = turns_same (heard r w) (lines (kept s ++ u)) v (cut_same (drop (whole_end s) s) u (rest_no_feed s)) in
    rw (lines-whole s u, turns_append r w v, heard_append r w v, printed_append k (turns r w) (turns (heard r w) v), same.0, same.1)
    (append_assoc (printed k (turns r w)) (printed (counted k (turns r w)) (turns (heard r w) v)) (end_text (heard (heard r w) v)))

fed-all : (r : Receiver) (k : ℕ) (h : List ℕ) (cs : List (List ℕ)) → fed r k h cs ≡ all r k (h ++ joined cs)
unfolding fed
fed-all r k h [] = rw (append-nil h)
fed-all r k h (c ∷ cs) =
    let w = lines (whole (h ++ c)) in
    rw (sym (append_assoc h c (joined cs)), fed-all (heard r w) (counted k (turns r w)) (kept (h ++ c)) cs)
    (sym (all_split r k (h ++ c) (joined cs)))

pub prints_the_same : PrintsTheSame
prints_the_same cs = fed-all start 0 [] cs
