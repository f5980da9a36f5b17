-- Laws of bytes read from pairs of digits, of the number that bytes make and of their sum.
use Prim.Native.Nat.{ℕ, zero, suc, ◌+◌, ◌*◌, ◌/◌, ◌%◌, ◌^◌, ◌<◌, ◌≤◌}
use mathlib.Core.Path.{◌≡◌, refl, sym, ap, ap₂, ◌∙◌}
use mathlib.Core.List.{List, [], ◌∷◌, ◌++◌}
use native.Mathlib.Omega.{arith}
use native.Mathlib.Nat.{pow-suc, pow-le-pow_right, lt_of_lt_of_le}
use native.Mathlib.Numerals.{add-one}
use Rattle.std.specs.List.{sum}
use Rattle.std.proofs.lemmas.List.Sums.{fold_more, sum_by-cons}
use lib.Bits.{bit_or, bit_xor, or_add_and, xor_add_and, and_le_l, and_le_r, xor_self}
use lib.ListN.{length, get_or, set, take, drop}
use lib.Seq.{take-add, drop-cons, drop-drop, take_at, drop_at, length-take-le, append_snoc}
use Rattle.wire.specs.Wire.{digit, value, digits_of, byte_sum, spelt, field}
use Rattle.wire.specs.Inner.Spelling.{spell, joined}
use Rattle.wire.proofs.Bytes.{digits_append, length_digits}
use Rattle.wire.proofs.Places.{set_after}

-- ── bytes ──

pub length-spell : (n : ℕ) (l : List ℕ) → length (spell n l) ≡ n
length-spell zero l = refl
length-spell (suc n) l = ap suc (length-spell n (drop 2 l))

spell_snoc : (n : ℕ) (l : List ℕ) → spell (suc n) l ≡ spell n l ++ field 0 1 (drop (2 * n) l) ∷ []
spell_snoc zero l = refl
spell_snoc (suc n) l =
    let a : 2 + 2 * n ≡ 2 * suc n = omega arith in
    ap (λ (x : List ℕ). field 0 1 l ∷ x)
    (spell_snoc n (drop 2 l) ∙ ap (λ (x : List ℕ). spell n (drop 2 l) ++ field 0 1 x ∷ []) (drop-drop (2 * n) 2 l ∙ ap (λ (m : ℕ). drop m l) a))

two_digits : (l : List ℕ) (o : ℕ) → o + 2 ≤ length l → take 2 (drop o l) ≡ get_or l o 0 ∷ get_or l (o + 1) 0 ∷ []
two_digits l o h =
    let p : o < length l = omega arith in
    let q : suc o < length l = omega arith in
    rw (add-one, drop-cons l o 0 p, drop-cons l (suc o) 0 q)

-- one pair more
pub spell_more : (l : List ℕ) (i : ℕ) → 2 * i + 2 ≤ length l
    → spell (i + 1) l ≡ spell i l ++ (value (get_or l (2 * i) 0) * 16 + value (get_or l (2 * i + 1) 0)) ∷ []
spell_more l i h =
    let a = value (get_or l (2 * i) 0) in
    let b = value (get_or l (2 * i + 1) 0) in
    let e : (0 * 16 + a) * 16 + b ≡ a * 16 + b = omega arith in
    ap (λ (m : ℕ). spell m l) (add-one i) ∙ spell_snoc i l ∙ ap (λ (x : ℕ). spell i l ++ x ∷ []) (ap (spelt 0) (two_digits l (2 * i) h) ∙ e)

-- its byte, stored
pub spell_step : (i x y : ℕ) (l out₀ out : List ℕ) → 2 * i + 2 ≤ length l → i < length out₀ → out ≡ spell i l ++ drop i out₀
    → x ≡ value (get_or l (2 * i) 0) → y ≡ value (get_or l (2 * i + 1) 0) → set out i (x * 16 + y) ≡ spell (i + 1) l ++ drop (i + 1) out₀
spell_step i x y l out₀ out h k e ex ey =
    let v = value (get_or l (2 * i) 0) * 16 + value (get_or l (2 * i + 1) 0) in
    let ev : x * 16 + y ≡ v = omega arith in
    ap₂ (λ (m : List ℕ) (z : ℕ). set m i z) e ev
    ∙ set_after (spell i l) i v out₀ (length-spell i l) k
    ∙ sym (append_snoc (spell i l) v (drop (i + 1) out₀))
    ∙ ap (λ (m : List ℕ). m ++ drop (i + 1) out₀) (sym (spell_more l i h))

-- ── whether the digits are the bytes' own ──

-- numbers that differ in no bit are the same
xor_none : (a b : ℕ) → bit_xor a b ≡ 0 → a ≡ b
xor_none a b e = omega (arith, xor_add_and a b, and_le_l a b, and_le_r a b)

or_none_left : (a b : ℕ) → bit_or a b ≡ 0 → a ≡ 0
or_none_left a b e = omega (arith, or_add_and a b, and_le_l a b, and_le_r a b)

or_none_right : (a b : ℕ) → bit_or a b ≡ 0 → b ≡ 0
or_none_right a b e = omega (arith, or_add_and a b, and_le_l a b, and_le_r a b)

pub value_small : (c : ℕ) → value c < 16
unfolding value
value_small c = omega arith

-- there are no bits exactly if the first i pairs are the digits of their bytes
abbrev pub Own : List ℕ → ℕ → ℕ → Type 0
Own l bits i = (bits ≡ 0 → take (2 * i) l ≡ digits_of (spell i l)) × (take (2 * i) l ≡ digits_of (spell i l) → bits ≡ 0)

pub own_turn : (l : List ℕ) (bits i dx dy : ℕ) → Own l bits i → 2 * i + 2 ≤ length l
    → dx ≡ digit (value (get_or l (2 * i) 0)) → dy ≡ digit (value (get_or l (2 * i + 1) 0))
    → Own l (bit_or bits (bit_or (bit_xor (get_or l (2 * i) 0) dx) (bit_xor (get_or l (2 * i + 1) 0) dy))) (i + 1)
own_turn l bits i dx dy w h ex ey =
    let a = get_or l (2 * i) 0 in
    let b = get_or l (2 * i + 1) 0 in
    let p = take (2 * i) l in
    let q = digits_of (spell i l) in
    let u = value_small a in
    let v = value_small b in
    let ea : (value a * 16 + value b) / 16 ≡ value a = omega arith in
    let eb : (value a * 16 + value b) % 16 ≡ value b = omega arith in
    let n : 2 * (i + 1) ≡ 2 * i + 2 = omega arith in
    let np : length p ≡ 2 * i = length-take-le (2 * i) l (omega arith) in
    let nq : length q ≡ 2 * i = length_digits (spell i l) ∙ ap (λ (m : ℕ). 2 * m) (length-spell i l) in
    let left : take (2 * (i + 1)) l ≡ p ++ a ∷ b ∷ [] =
    ap (λ (m : ℕ). take m l) n ∙ take-add (2 * i) 2 l ∙ ap (λ (m : List ℕ). p ++ m) (two_digits l (2 * i) h) in
    let right : digits_of (spell (i + 1) l) ≡ q ++ dx ∷ dy ∷ [] =
    ap digits_of (spell_more l i h) ∙ digits_append (spell i l) ((value a * 16 + value b) ∷ [])
    ∙ ap₂ (λ (x y : ℕ). q ++ x ∷ y ∷ []) (ap digit ea ∙ sym ex) (ap digit eb ∙ sym ey) in (
      (λ e.
          let low = or_none_right bits (bit_or (bit_xor a dx) (bit_xor b dy)) e in
          let f : p ≡ q = w.0 (or_none_left bits (bit_or (bit_xor a dx) (bit_xor b dy)) e) in
          let x : a ≡ dx = xor_none a dx (or_none_left (bit_xor a dx) (bit_xor b dy) low) in
          let y : b ≡ dy = xor_none b dy (or_none_right (bit_xor a dx) (bit_xor b dy) low) in
          left ∙ ap (λ (m : List ℕ). m ++ a ∷ b ∷ []) f ∙ ap₂ (λ (s t : ℕ). q ++ s ∷ t ∷ []) x y ∙ sym right),
      (λ e.
          let g : p ++ a ∷ b ∷ [] ≡ q ++ dx ∷ dy ∷ [] = sym left ∙ e ∙ right in
          let f : p ≡ q = sym (take_at p (a ∷ b ∷ []) (2 * i) np) ∙ ap (take (2 * i)) g ∙ take_at q (dx ∷ dy ∷ []) (2 * i) nq in
          let t : ◌≡◌ {A = List ℕ} (a ∷ b ∷ []) (dx ∷ dy ∷ []) =
          sym (drop_at p (a ∷ b ∷ []) (2 * i) np) ∙ ap (drop (2 * i)) g ∙ drop_at q (dx ∷ dy ∷ []) (2 * i) nq in
          let x : a ≡ dx = cc in
          let y : b ≡ dy = cc in
          rw (w.1 f, x, y, xor_self dx, xor_self dy)),
    )

-- ── the number of bytes ──

-- one byte more
pub joined_more : (l : List ℕ) (i : ℕ) → i < length l → joined 0 (take (i + 1) l) ≡ joined 0 (take i l) * 256 + get_or l i 0
joined_more l i h = fold_more (λ m b. m * 256 + b) 0 l i 0 h

pub byte_more : (n i b : ℕ) → n < 256 ^ i → b < 256 → n * 256 + b < 256 ^ (i + 1)
byte_more n i b h k = rw (add-one, pow-suc) (omega arith)

-- a number of fewer than 8 bytes takes one more in 64 bits
pub byte_room : (n i : ℕ) → n < 256 ^ i → i < 8 → n < 256 ^ 7
byte_room n i h k = lt_of_lt_of_le h (pow-le-pow_right {n = 256} (omega arith) {j = 7} (omega arith))

-- ── the sum of bytes ──

pub sum_bytes : (l : List ℕ) → sum l ≡ byte_sum l
sum_bytes [] = refl
sum_bytes (x ∷ xs) = sum_by-cons (λ y. y) x xs ∙ ap (λ s. x + s) (sum_bytes xs)
