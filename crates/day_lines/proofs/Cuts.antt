-- Laws of words: what is cut off before a remark, the parts of a text as `split` and `filter` give them, and words that are none of a line.
use Rattle.std.proofs.Common.{◌≡◌, ◌≤◌, ℕ, suc, ◌+◌, ◌==◌, List, [], ◌∷◌, Bool, true, false, not, refl, sym, ap, ◌∙◌, length, take, arith, Option, Some, None, Bor, get_or, slice_get, ne_eqb, ltb, ltb-false}
use lib.Dec.{eqb}
use borrow.Author.Tests.{eq-eqb, eqb-true}
use Rattle.std.specs.Option.{unwrap_or, option_map}
use Rattle.std.proofs.lemmas.Option.{unwrap_or-slice_get}
use Rattle.std.proofs.lemmas.List.Sums.{prefix_len-le-length}
use Rattle.std.specs.List.{slice_split, onto_first, filter, position, position_or_len}
use Rattle.types.proofs.Booleans.{by}
use Rattle.types.specs.Bytes.{onto}
use Rattle.day_lines.specs.Words.{is_blank, spoken, parts, not_empty, words, alike}
use Rattle.day_lines.specs.Lines.{bid, ask, cash, side_word, cash_line}
use Rattle.day_lines.specs.declared.Said.TheVariants as L

-- up to the first `#`
pub spoken-take : (s : List ℕ) → take (position_or_len (λ b. b == 35) s) s ≡ spoken s
unfolding spoken
spoken-take [] = refl
spoken-take (b ∷ bs) = by (b == 35) (λ t. rw t) (λ t. rw (t, go (position_or_len (λ b. b == 35) bs)) (ap (λ (l : List ℕ). b ∷ l) (spoken-take bs)))
  where
    go : (n : ℕ) → take (1 + n) (b ∷ bs) ≡ b ∷ take n bs
    go n = let e : 1 + n ≡ suc n = omega arith in rw e

pub first-at : (s : List ℕ) → unwrap_or (position (λ b. b == 35) s) (length s) ≡ position_or_len (λ b. b == 35) s
first-at s =
    let n = position_or_len (λ b. b == 35) s in
    by (ltb n (length s)) (λ t. rw t) (λ t. rw t (let l : length s ≤ n = ltb-false n (length s) t in omega (arith, prefix_len-le-length (λ b. not (b == 35)) s)))

-- the parts between blanks
parts-split : (s : List ℕ) → parts s ≡ slice_split is_blank s
unfolding parts
parts-split [] = refl
parts-split (b ∷ bs) = let e = parts-split bs in by (is_blank b) (λ t. rw (t, e)) (λ t. rw (t, e) (go (slice_split is_blank bs)))
  where
    go : (ps : List (List ℕ)) → onto b ps ≡ onto_first b ps
    go [] = refl
    go (p ∷ ps) = refl

-- and those that are not empty
not_empty-filter : (ps : List (List ℕ)) → not_empty ps ≡ filter (λ p. not (length p == 0)) ps
unfolding not_empty
not_empty-filter [] = refl
not_empty-filter ([] ∷ ps) = not_empty-filter ps
not_empty-filter ((b ∷ p) ∷ ps) = let e : (length (b ∷ p) == 0) ≡ false = ne_eqb (suc (length p)) 0 (λ z. omega arith) in rw (e, not_empty-filter ps)

pub words-cut : (s : List ℕ) → words s ≡ filter (λ p. not (length p == 0)) (slice_split is_blank s)
words-cut s = ap not_empty (parts-split s) ∙ not_empty-filter (slice_split is_blank s)

-- the word that a call of `nth` gave
pub given : (r : Option (Bor (List ℕ))) (d : Bor (List ℕ)) (ws : List (List ℕ)) (i : ℕ) → option_map (λ x. x.now) r ≡ slice_get ws i → d.now ≡ [] → (unwrap_or r d).now ≡ get_or ws i []
given r d ws i e n = go r ∙ ap (λ (o : Option (List ℕ)). unwrap_or o []) e ∙ unwrap_or-slice_get ws i []
  where
    go : (o : Option (Bor (List ℕ))) → (unwrap_or o d).now ≡ unwrap_or (option_map (λ x. x.now) o) []
    go None = n
    go (Some x) = refl

-- ── the same bytes ──

alike_same : (x y : List ℕ) → alike x y ≡ true → x ≡ y
alike_same [] [] e = refl
alike_same [] (y ∷ ys) e = cc
alike_same (x ∷ xs) [] e = cc
alike_same (x ∷ xs) (y ∷ ys) e =
    by (eqb x y)
    (λ t. let f : alike xs ys ≡ true = rw t at e in rw (eqb-true x y t, alike_same xs ys f))
    (λ t. let f : false ≡ true = rw t at e in cc)

same_alike : (x : List ℕ) → alike x x ≡ true
same_alike [] = refl
same_alike (x ∷ xs) = rw (eq-eqb x x refl) (same_alike xs)

-- a test of the same bytes is this one
pub alike_is : (r : Bool) (x y : List ℕ) → (r ≡ true → x ≡ y) × (x ≡ y → r ≡ true) → r ≡ alike x y
alike_is true x y h = rw (h.0 refl) (sym (same_alike y))
alike_is false x y h =
    by (alike x y)
    (λ t. let f : false ≡ true = h.1 (alike_same x y t) in cc)
    (λ t. sym t)

-- words of different lengths differ
alike_length : (x y : List ℕ) → (length x ≡ length y → ⊥) → alike x y ≡ false
alike_length [] [] h = absurd (h refl)
alike_length [] (y ∷ ys) h = refl
alike_length (x ∷ xs) [] h = refl
alike_length (x ∷ xs) (y ∷ ys) h = rw (alike_length xs ys (λ e. h (ap suc e))) (by (x == y) (λ t. rw t) (λ t. rw t))

-- so a word of another length is no side
pub other_side : (w : List ℕ) → (length w ≡ 3 → ⊥) → side_word w ≡ None
other_side w h = rw (alike_length w bid h, alike_length w ask h)

-- and not `cash`
pub other_word : (w amount : List ℕ) → (length w ≡ 4 → ⊥) → cash_line w amount ≡ L.Other
other_word w amount h = rw (alike_length w cash h)
