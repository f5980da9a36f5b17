-- Laws of the lines of a stream: where the first one ends, and what bytes before it make of it.
use Prim.Native.Nat.{ℕ, zero, suc, ◌+◌, ◌<◌, ◌≤◌}
use mathlib.Core.Bool.{Bool, true, false, cond}
use mathlib.Core.Path.{◌≡◌, refl, ap, ◌∙◌}
use mathlib.Core.List.{List, [], ◌∷◌, ◌++◌}
use native.Mathlib.Omega.{arith}
use borrow.Author.Tests.{lt-ltb, le-ltb, ltb-true, ltb-false}
use lib.Dec.{eqb, ltb}
use lib.ListN.{length, set, take, drop}
use Rattle.wire.specs.Wire.{line_feed}
use Rattle.types.specs.Bytes.{onto}
use Rattle.types.proofs.Booleans.{by}
use Rattle.std.proofs.Common.{Option, Some, None}
use Rattle.std.specs.List.{position, position_or_len}
use Rattle.streams.specs.Streams.{lines, line_end}
use Rattle.streams.specs.Reading.{CutsFirst}

-- ── bytes without a line feed ──

-- none of the bytes is a line feed
abbrev pub NoFeed : List ℕ → Type 0
NoFeed [] = Unit {0}
NoFeed (c ∷ cs) = (eqb c line_feed ≡ false) × NoFeed cs

pub no_feed_set : (xs : List ℕ) (i c : ℕ) → NoFeed xs → eqb c line_feed ≡ false → NoFeed (set xs i c)
no_feed_set [] i c h e = tt
no_feed_set (x ∷ xs) zero c h e = (e, h.1)
no_feed_set (x ∷ xs) (suc i) c h e = (h.0, no_feed_set xs i c h.1 e)

pub no_feed_take : (n : ℕ) (xs : List ℕ) → NoFeed xs → NoFeed (take n xs)
no_feed_take zero xs h = tt
no_feed_take (suc n) [] h = tt
no_feed_take (suc n) (x ∷ xs) h = (h.0, no_feed_take n xs h.1)

-- bytes put before the first line
abbrev pub ontos : List ℕ → List (List ℕ) → List (List ℕ)
ontos [] ls = ls
ontos (c ∷ cs) ls = onto c (ontos cs ls)

pub ontos_cons : (xs l : List ℕ) (ls : List (List ℕ)) → ontos xs (l ∷ ls) ≡ (xs ++ l) ∷ ls
ontos_cons [] l ls = refl
ontos_cons (x ∷ xs) l ls = ap (onto x) (ontos_cons xs l ls)

pub ontos_nil : (x : ℕ) (xs : List ℕ) → ontos (x ∷ xs) [] ≡ (x ∷ xs) ∷ []
ontos_nil x [] = refl
ontos_nil x (y ∷ ys) = ap (onto x) (ontos_nil y ys)

pub lines_on : (xs rest : List ℕ) → NoFeed xs → lines (xs ++ rest) ≡ ontos xs (lines rest)
lines_on [] rest h = refl
lines_on (x ∷ xs) rest h = rw h.0 (ap (onto x) (lines_on xs rest h.1))

-- a line that its line feed ends is the first of the lines
pub lines-ended : (xs rest : List ℕ) → NoFeed xs → lines (xs ++ line_feed ∷ rest) ≡ (xs ++ line_feed ∷ []) ∷ lines rest
lines-ended xs rest h = lines_on xs (line_feed ∷ rest) h ∙ ontos_cons xs (line_feed ∷ []) (lines rest)

-- ── where the first line ends ──

-- a stream is its first line and the lines of the rest
pub first-line : CutsFirst
first-line [] h = absurd (omega arith)
first-line (c ∷ []) h = go (eqb c line_feed)
  where
    go : (t : Bool) → cond t ((c ∷ []) ∷ []) ((c ∷ []) ∷ []) ≡ take (cond t 1 1) (c ∷ []) ∷ lines (drop (cond t 1 1) (c ∷ []))
    go true = refl
    go false = refl
first-line (c ∷ d ∷ ds) h = go (eqb c line_feed) (first-line (d ∷ ds) (omega arith))
  where
    go : (t : Bool) → lines (d ∷ ds) ≡ take (line_end (d ∷ ds)) (d ∷ ds) ∷ lines (drop (line_end (d ∷ ds)) (d ∷ ds))
        → cond t ((c ∷ []) ∷ lines (d ∷ ds)) (onto c (lines (d ∷ ds)))
        ≡ take (cond t 1 (suc (line_end (d ∷ ds)))) (c ∷ d ∷ ds) ∷ lines (drop (cond t 1 (suc (line_end (d ∷ ds)))) (c ∷ d ∷ ds))
    go true e = refl
    go false e = ap (onto c) e

-- one place on from its line feed, or all where there is none
abbrev pub end_of : Option ℕ → ℕ → ℕ
end_of (Some i) n = i + 1
end_of None n = n

pub end_found : (s : List ℕ) → end_of (position (λ c. eqb c line_feed) s) (length s) ≡ line_end s
end_found [] = refl
end_found (c ∷ cs) =
    let p = position_or_len (λ x. eqb x line_feed) cs in
    let n = length cs in
    let rest = end_found cs in
    by (eqb c line_feed)
    (λ e. let h : 0 < suc n = omega arith in rw (e, lt-ltb 0 (suc n) h) refl)
    (λ e.
    by (ltb p n)
    (λ f.
    let h : 1 + p < suc n = omega (arith, ltb-true p n f) in
    let t : p + 1 ≡ line_end cs = rw f at rest in
    rw (e, lt-ltb (1 + p) (suc n) h) (omega arith))
    (λ f.
    let h : suc n ≤ 1 + p = omega (arith, ltb-false p n f) in
    let t : n ≡ line_end cs = rw f at rest in
    rw (e, le-ltb (1 + p) (suc n) h) (omega arith)))
