-- Laws of numbers read digit by digit: a number past its limit stays there, and a digit read leaves the rest to be read.
use Prim.Native.Nat.{ℕ, ◌+◌, ◌≤◌, ◌<◌}
use mathlib.Core.Path.{◌≡◌, refl, sym, ◌∙◌}
use mathlib.Core.List.{List, [], ◌∷◌}
use native.Mathlib.Omega.{arith}
use native.Mathlib.Numerals.{add-one}
use borrow.Author.Tests.{le-leb, lt-leb, leb-true, leb-false}
use lib.Dec.{leb}
use lib.ListN.{length, drop, get_or, drop_of_length-le}
use lib.Seq.{drop-cons}
use Rattle.types.proofs.Booleans.{by}
use Rattle.numerals.specs.Numerals.{is_digit, further, digits_on, numeral, bounded, numeral_up_to, with_digit}
use Rattle.numerals.specs.Inner.Sizes.{size_of}
use Rattle.std.specs.Prelude.{Option, Some, None}

-- ── digit by digit ──

past_stays : (limit n : ℕ) (bs : List ℕ) → limit < n → bounded limit (digits_on n bs) ≡ None
unfolding digits_on
past_stays limit n [] h = rw (lt-leb n limit h)
past_stays limit n (b ∷ bs) h =
    by (is_digit b) (λ t. rw t (past_stays limit (further n b) bs (omega arith))) (λ t. rw t)

-- a digit read: the rest is read on from there
read_on_lem : (limit n m b : ℕ) (bs : List ℕ) → with_digit limit n b ≡ Some m → bounded limit (digits_on n (b ∷ bs)) ≡ bounded limit (digits_on m bs)
unfolding digits_on
read_on_lem limit n m b bs e =
    by (is_digit b)
    (λ t.
    by (leb (further n b) limit)
    (λ f. let same : further n b ≡ m = sized (rw (t, f) at e) in rw (t, same))
    (λ f. absurd (never (rw (t, f) at e))))
    (λ t. absurd (never (rw t at e)))
  where
    sized : {x y : ℕ} → Some x ≡ Some y → x ≡ y
    sized p = cc

    never : {y : ℕ} → None ≡ Some y → ⊥
    never p = let z : ◌≡◌ {A = ℕ} 0 1 = cc in omega arith

read_stop : (limit n b : ℕ) (bs : List ℕ) → with_digit limit n b ≡ None → bounded limit (digits_on n (b ∷ bs)) ≡ None
unfolding digits_on
read_stop limit n b bs e =
    by (is_digit b)
    (λ t.
    by (leb (further n b) limit)
    (λ f. absurd (never (rw (t, f) at e)))
    (λ f. rw t (past_stays limit (further n b) bs (leb-false (further n b) limit f))))
    (λ t. rw t)
  where
    never : {y : ℕ} → Some y ≡ None → ⊥
    never p = let z : ◌≡◌ {A = ℕ} 0 1 = cc in omega arith

-- no byte is no number
pub none_there : (limit : ℕ) (w : List ℕ) → length w ≡ 0 → None ≡ numeral_up_to limit w
none_there limit [] h = refl
none_there limit (b ∷ bs) h = absurd (omega arith)

-- ── the loop: what is left to read gives what the whole gives ──

module _ (limit : ℕ) (w : List ℕ) where
  module _ (n i : ℕ) (h : i < length w) (e : numeral_up_to limit w ≡ bounded limit (digits_on n (drop i w))) where
    there : numeral_up_to limit w ≡ bounded limit (digits_on n (get_or w i 0 ∷ drop (i + 1) w))
    there = e ∙ rw (add-one i, drop-cons w i 0 h)

    pub one_read : (m : ℕ) → with_digit limit n (get_or w i 0) ≡ Some m → numeral_up_to limit w ≡ bounded limit (digits_on m (drop (i + 1) w))
    one_read m f = there ∙ read_on_lem limit n m (get_or w i 0) (drop (i + 1) w) f

    pub none_read : with_digit limit n (get_or w i 0) ≡ None → None ≡ numeral_up_to limit w
    none_read f = sym (there ∙ read_stop limit n (get_or w i 0) (drop (i + 1) w) f)

  pub all_read : (n i : ℕ) → length w ≤ i → n ≤ limit → numeral_up_to limit w ≡ bounded limit (digits_on n (drop i w)) → Some n ≡ numeral_up_to limit w
  unfolding digits_on
  all_read n i h l e = sym (e ∙ rw (drop_of_length-le w h, le-leb n limit l))

-- ── sizes ──

-- a number that is read is within its limit
pub read_fits : (limit : ℕ) (w : List ℕ) → size_of (numeral_up_to limit w) ≤ limit
read_fits limit w = go (numeral w)
  where
    go : (n : Option ℕ) → size_of (bounded limit n) ≤ limit
    go None = omega arith
    go (Some n) = by (leb n limit) (λ t. rw t (leb-true n limit t)) (λ t. rw t (omega arith))
