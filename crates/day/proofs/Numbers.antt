-- Fills as numbers: what their test says of the numbers, and the fills of a list one after another.
use Rattle.std.specs.Prelude.{slice_index_or, unsigned_abs}
use Rattle.std.proofs.Common.{◌≡◌, ℕ, zero, suc, ◌-◌, ◌*◌, ◌/◌, ◌<◌, ◌≤◌, Bool, true, false, not, List, [], ◌∷◌, ◌++◌, length, drop, ℤ, pos, nat_abs, sym, refl, ap, ◌∙◌, arith, length-drop, leb-true}
use mathlib.Core.Bool.{and-eq-true_iff}
use lib.Signed.{lt_z}
use Rattle.holding.specs.declared.Fill.{Fill}
use Rattle.types.specs.Replies.{done, refuse, number_of, values_of, if_within}
use Rattle.types.specs.declared.Refusal.{Refusal}
use Rattle.types.specs.Named.{side_named}
use Rattle.types.specs.declared.Side.{Side}
use Rattle.amount.specs.Whole.{amount}
use Rattle.day.specs.Numbers.{max_word, is_up_to, are_fill, is_first, fill_by, first_fill, first_fills, fills_by}

up_to_lem : (most : ℕ) (z : ℤ) → is_up_to most z ≡ true → nat_abs z ≤ most
up_to_lem most z e = leb-true _ _ ((and-eq-true_iff (not (lt_z z (pos 0))) _).0 e).1

-- numbers that are a fill fit their bits
pub record Fitting (symbol quantity price : ℤ) : Type 0 where
  pub symbol_fits : nat_abs symbol ≤ max_word
  pub quantity_fits_lem : nat_abs quantity ≤ max_word
  pub price-fits : nat_abs price ≤ max_word

pub fitting : (symbol side quantity price : ℤ) → are_fill symbol side quantity price ≡ true → Fitting symbol quantity price
fitting symbol side quantity price e =
    let a = (and-eq-true_iff (is_up_to max_word symbol) _).0 e in
    let b = (and-eq-true_iff (is_up_to 1 side) _).0 a.1 in
    let c = (and-eq-true_iff (is_up_to max_word quantity) _).0 b.1 in
    record { symbol_fits = up_to_lem max_word symbol a.0; quantity_fits_lem = up_to_lem max_word quantity c.0; price-fits = up_to_lem max_word price c.1 }

-- a value that answers a test: the test is passed, and it is the value behind it
pub record Within {A : Type 0} (t : Bool) (a v : A) : Type 0 where
  pub is : t ≡ true
  pub value : v ≡ a

pub within : {A : Type 0} (t : Bool) (a v : A) → done v ≡ if_within t (done a) → Within t a v
within true a v e = record { is = refl; value = cc }
within false a v e = cc

-- a refusal that answers it: it is not passed, and the refusal is 2
pub outside : {A : Type 0} (t : Bool) (a : A) (why : Refusal) → refuse why ≡ if_within t (done a) → (t ≡ false) × (number_of why ≡ 2) × (values_of why ≡ [])
outside true a why e = cc
outside false a why e = (refl, cc, cc)

-- numbers that pass the four tests are the first fill
pub a_fill : (ns : List ℤ) (s q p : ℕ) (d : Side) →
    let at = λ (i : ℕ). slice_index_or ns i (pos 0) in
    Within (is_up_to max_word (at 0)) (unsigned_abs (at 0)) s → Within (is_up_to 1 (at 1)) (side_named (unsigned_abs (at 1))) d →
    Within (is_up_to max_word (at 2)) (unsigned_abs (at 2)) q → Within (is_up_to max_word (at 3)) (unsigned_abs (at 3)) p →
    done (record { symbol = s; side = d; quantity = q; price = p; commission = amount (at 4) }) ≡ if_within (is_first ns) (done (first_fill ns))
unfolding fill_by
a_fill ns s q p d ws wd wq wp = rw (ws.is, wd.is, wq.is, wp.is, ws.value, wd.value, wq.value, wp.value)

-- the first five numbers make the first fill
pub fills_next : (ns : List ℤ) → 5 ≤ length ns → fills_by ns ≡ first_fill ns ∷ fills_by (drop 5 ns)
unfolding first_fills
fills_next ns h =
    let e : length ns / 5 ≡ suc ((length ns - 5) / 5) = omega arith in
    rw (e, length-drop 5 ns)

-- with fewer there is none
pub fills_over : (ns : List ℤ) → length ns < 5 → fills_by ns ≡ []
unfolding first_fills
fills_over ns h = let e : length ns / 5 ≡ 0 = omega arith in rw e

-- so many fills, and others behind them
pub fills_append : (n : ℕ) (a b : List ℤ) → length a ≡ 5 * n → fills_by (a ++ b) ≡ fills_by a ++ fills_by b
unfolding first_fills
fills_append zero [] b e = refl
fills_append zero (v ∷ a) b e = absurd (omega arith)
fills_append (suc n) [] b e = absurd (omega arith)
fills_append (suc n) (v ∷ []) b e = absurd (omega arith)
fills_append (suc n) (v ∷ w ∷ []) b e = absurd (omega arith)
fills_append (suc n) (v ∷ w ∷ x ∷ []) b e = absurd (omega arith)
fills_append (suc n) (v ∷ w ∷ x ∷ y ∷ []) b e = absurd (omega arith)
fills_append (suc n) (v ∷ w ∷ x ∷ y ∷ z ∷ a) b e =
    fills_next (v ∷ w ∷ x ∷ y ∷ z ∷ (a ++ b)) (omega arith) ∙
    ap (λ (fs : List Fill). fill_by v w x y z ∷ fs) (fills_append n a b (omega arith)) ∙
    sym (ap (λ (fs : List Fill). fs ++ fills_by b) (fills_next (v ∷ w ∷ x ∷ y ∷ z ∷ a) (omega arith)))

-- five numbers, and others behind them
pub fills_begin : (ns five behind : List ℤ) → ns ≡ five ++ behind → length five ≡ 5 → fills_by ns ≡ first_fill five ∷ fills_by behind
fills_begin ns five behind e n =
    ap fills_by e ∙ fills_append 1 five behind n ∙
    ap (λ (fs : List Fill). fs ++ fills_by behind) (fills_next five (omega arith) ∙ ap (λ (fs : List Fill). first_fill five ∷ fs) (fills_over (drop 5 five) (simp length-drop (omega arith))))

-- how many there are
pub fills_count : (ns : List ℤ) → length (fills_by ns) ≡ length ns / 5
unfolding first_fills
fills_count ns = go (length ns / 5) ns
  where
    go : (m : ℕ) (ms : List ℤ) → length (first_fills m ms) ≡ m
    go zero ms = refl
    go (suc m) ms = ap suc (go m (drop 5 ms))
