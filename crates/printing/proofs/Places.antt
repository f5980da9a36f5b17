-- Where the lines of a text stand: a part up to the first line feed, or else all that is left, is its first line.
use Prim.Native.Nat.{ℕ, zero, suc, min, ◌+◌, ◌<◌}
use mathlib.Core.Bool.{Bool, true, false}
use mathlib.Core.Path.{◌≡◌, refl, sym, ap, ◌∙◌}
use mathlib.Core.List.{List, [], ◌∷◌, ◌++◌}
use native.Mathlib.Omega.{arith}
use lib.Dec.{eqb}
use lib.ListN.{length, take, drop, length-append}
use lib.Seq.{take_at, drop_at}
use Rattle.std.specs.List.{IsFirstMatchOrLen}
use Rattle.types.proofs.Booleans.{by}
use Rattle.wire.specs.Wire.{line_feed}
use Rattle.streams.specs.Streams.{lines, line_end}
use Rattle.streams.proofs.Splits.{first-line}

abbrev pub ends_line : ℕ → Bool
ends_line c = eqb c line_feed

-- the first line ends one place on from the first line feed, or with the text
end_at : (s : List ℕ) (i : ℕ) → IsFirstMatchOrLen ends_line s i → line_end s ≡ min (i + 1) (length s)
end_at [] i h = omega arith
end_at (c ∷ cs) zero h = by (eqb c line_feed) (λ t. rw t (omega arith)) (λ f. let t : eqb c line_feed ≡ true = h.1 (omega arith) 0 in cc)
end_at (c ∷ cs) (suc i) h =
    by (eqb c line_feed)
    (λ t. let f : eqb c line_feed ≡ false = h.0 0 0 (omega arith) (omega arith) in cc)
    (λ f.
    let e = end_at cs i (λ k d low high. h.0 (suc k) d (omega arith) (omega arith), λ l. h.1 (omega arith)) in
    rw (f, e) (omega arith))

-- so a part up to there is the first line, and the rest has the others
pub first_part :
    (s x rest : List ℕ) (i : ℕ) → s ≡ x ++ rest → length x ≡ min (i + 1) (length s) → IsFirstMatchOrLen ends_line s i → 0 < length s →
    (lines s ≡ x ∷ lines rest) × (length rest < length s)
first_part s x rest i e n h some =
    let k : length x ≡ line_end s = n ∙ sym (end_at s i h) in
    let front : take (line_end s) s ≡ x = rw (sym k, e) (take_at x rest (length x) refl) in
    let back : drop (line_end s) s ≡ rest = rw (sym k, e) (drop_at x rest (length x) refl) in
    (rw (front, back) at (first-line s some), omega (arith, n, ap length e, length-append x rest))
