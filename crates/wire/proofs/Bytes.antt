-- Laws of digits, of the bytes of a number and of their sum.
use Prim.Native.Nat.{ℕ, zero, suc, ◌+◌, ◌*◌, ◌/◌, ◌%◌, ◌^◌, ◌<◌, ◌≤◌}
use mathlib.Core.Path.{◌≡◌, refl, sym, ap, ◌∙◌, subst}
use mathlib.Core.List.{List, [], ◌∷◌, ◌++◌, append_assoc}
use native.Mathlib.Omega.{arith}
use native.Mathlib.Nat.{pow-suc, add-suc, suc-add, add-zero, pow-le-pow_right, lt_of_lt_of_le}
use native.Mathlib.Decide.{dec_lt}
use lib.ListN.{length, get_or, take, drop, length-take}
use Rattle.std.proofs.lemmas.List.Sums.{fold_more}
use Rattle.wire.specs.Wire.{digit, value, digits_of, be, spelt, field, byte_sum, check_byte}

-- each is a byte
abbrev pub AllBytes : List ℕ → Type 0
AllBytes [] = Unit {0}
AllBytes (b ∷ bs) = (b < 256) × AllBytes bs

pub all_append : (xs ys : List ℕ) → AllBytes xs → AllBytes ys → AllBytes (xs ++ ys)
all_append [] ys h k = k
all_append (x ∷ xs) ys h k = (h.0, all_append xs ys h.1 k)

-- ── digits ──

pub value-digit : (d : ℕ) → d < 16 → value (digit d) ≡ d
unfolding value digit
value-digit d h = tens (dec_lt d 10)
  where
    tens : Dec (d < 10) → (48 + d + 7 * (d / 10) + 9 * ((48 + d + 7 * (d / 10)) / 64)) % 16 ≡ d
    tens (yes l) =
        let a : d / 10 ≡ 0 = omega arith in
        let b : (48 + d + 7 * (d / 10)) / 64 ≡ 0 = omega arith in
        let c : (48 + d + 7 * (d / 10) + 9 * ((48 + d + 7 * (d / 10)) / 64)) / 16 ≡ 3 = omega arith in
        omega arith
    tens (no l) =
        let a : d / 10 ≡ 1 = omega arith in
        let b : (48 + d + 7 * (d / 10)) / 64 ≡ 1 = omega arith in
        let c : (48 + d + 7 * (d / 10) + 9 * ((48 + d + 7 * (d / 10)) / 64)) / 16 ≡ 4 = omega arith in
        omega arith

pub digits_append : (xs ys : List ℕ) → digits_of (xs ++ ys) ≡ digits_of xs ++ digits_of ys
digits_append [] ys = refl
digits_append (x ∷ xs) ys = ap (λ (l : List ℕ). digit (x / 16) ∷ digit (x % 16) ∷ l) (digits_append xs ys)

pub length_digits : (xs : List ℕ) → length (digits_of xs) ≡ 2 * length xs
length_digits [] = refl
length_digits (x ∷ xs) = let h = length_digits xs in omega arith

-- ── the bytes of a number ──

pub be-bytes : (k n : ℕ) (after : List ℕ) → AllBytes after → AllBytes (be k n after)
be-bytes zero n after h = h
be-bytes (suc k) n after h = be-bytes k (n / 256) (n % 256 ∷ after) (omega arith, h)

-- a number and its width in bytes
pub record Field : Type 0 where
  pub width : ℕ
  pub number : ℕ

abbrev pub bytes : ℕ → ℕ → Field
bytes k n = record { width = k; number = n }

-- numbers one after the other, and the bytes that follow
abbrev pub field_bytes : List Field → List ℕ → List ℕ
field_bytes [] after = after
field_bytes (f ∷ fs) after = be f.width f.number (field_bytes fs after)

pub fields_are_bytes : (fs : List Field) (after : List ℕ) → AllBytes after → AllBytes (field_bytes fs after)
fields_are_bytes [] after h = h
fields_are_bytes (f ∷ fs) after h = be-bytes f.width f.number (field_bytes fs after) (fields_are_bytes fs after h)

pub be_append : (k n : ℕ) (after : List ℕ) → be k n after ≡ be k n [] ++ after
be_append zero n after = refl
be_append (suc k) n after =
    be_append k (n / 256) (n % 256 ∷ after)
    ∙ sym (append_assoc (be k (n / 256) []) (n % 256 ∷ []) after)
    ∙ ap (λ (l : List ℕ). l ++ after) (sym (be_append k (n / 256) (n % 256 ∷ [])))

pub length-be : (k n : ℕ) (after : List ℕ) → length (be k n after) ≡ k + length after
length-be zero n after = omega arith
length-be (suc k) n after =
    let h : length (be k (n / 256) (n % 256 ∷ after)) ≡ k + suc (length after) = length-be k (n / 256) (n % 256 ∷ after) in omega arith

-- the k bytes of a number that fits them spell it
pub spelt-be : (k n : ℕ) (after : List ℕ) → n < 256 ^ k → spelt 0 (digits_of (be k n after)) ≡ spelt n (digits_of after)
spelt-be zero n after h = ap (λ (m : ℕ). spelt m (digits_of after)) (omega arith)
spelt-be (suc k) n after h =
    let low : n < 256 ^ k * 256 = rw pow-suc at h in
    let high = value-digit (n % 256 / 16) (omega arith) in
    let last = value-digit (n % 256 % 16) (omega arith) in
    spelt-be k (n / 256) (n % 256 ∷ after) (omega arith)
    ∙ ap (λ (m : ℕ). spelt m (digits_of after))
    {x = (n / 256 * 16 + value (digit (n % 256 / 16))) * 16 + value (digit (n % 256 % 16))} {y = n} (omega arith)

-- ── the number that digits spell ──

-- one digit more
pub spelt_more : (l : List ℕ) (i : ℕ) → i < length l → spelt 0 (take (i + 1) l) ≡ spelt 0 (take i l) * 16 + value (get_or l i 0)
spelt_more l i h = fold_more (λ m c. m * 16 + value c) 0 l i 0 h

spelt_lt : (l : List ℕ) (m j : ℕ) → m < 16 ^ j → spelt m l < 16 ^ (j + length l)
unfolding value
spelt_lt [] m j h = simp add-zero h
spelt_lt (c ∷ cs) m j h =
    let k : m * 16 + value c < 16 ^ suc j = rw pow-suc (omega arith) in
    subst (λ (n : ℕ). spelt (m * 16 + value c) cs < 16 ^ n) (suc-add j (length cs) ∙ sym (add-suc j (length cs))) (spelt_lt cs (m * 16 + value c) (suc j) k)

-- j digits spell a number below 16 ^ j
pub spelt-below : (l : List ℕ) (i j : ℕ) → i ≤ j → spelt 0 (take i l) < 16 ^ j
spelt-below l i j h =
    lt_of_lt_of_le (spelt_lt (take i l) 0 0 (omega arith)) (pow-le-pow_right {n = 16} (omega arith) {j = j} (simp length-take (omega arith)))

-- and k bytes a number below 256 ^ k: here of 4 and of 8
pub field-word : (at : ℕ) (l : List ℕ) → field at 4 l < 2 ^ 32
field-word at l = spelt-below (drop (2 * at) l) 8 8 (omega arith)

pub field_long : (at : ℕ) (l : List ℕ) → field at 8 l < 2 ^ 64
field_long at l = spelt-below (drop (2 * at) l) 16 16 (omega arith)

-- ── sums ──

pub sum_append : (xs ys : List ℕ) → byte_sum (xs ++ ys) ≡ byte_sum xs + byte_sum ys
sum_append [] ys = omega arith
sum_append (x ∷ xs) ys = let h = sum_append xs ys in omega arith

-- with the check byte the sum is a multiple of 256
pub check_sum : (bs : List ℕ) → byte_sum (bs ++ check_byte bs ∷ []) % 256 ≡ 0
unfolding check_byte
check_sum bs = let h : byte_sum (bs ++ check_byte bs ∷ []) ≡ byte_sum bs + (check_byte bs + 0) = sum_append bs (check_byte bs ∷ []) in omega arith

pub checked : (bs : List ℕ) → AllBytes bs → AllBytes (bs ++ check_byte bs ∷ [])
unfolding check_byte
checked bs h = all_append bs (check_byte bs ∷ []) h (omega arith, tt)
