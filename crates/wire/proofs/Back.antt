-- There and back: bytes and the digits that spell them, a number and the bytes that make it.
use Prim.Native.Nat.{ℕ, zero, suc, ◌+◌, ◌-◌, ◌*◌, ◌/◌, ◌%◌, ◌<◌, ◌≤◌}
use mathlib.Core.Path.{◌≡◌, refl, sym, ap, ap₂, ◌∙◌}
use mathlib.Core.List.{List, [], ◌∷◌, ◌++◌}
use native.Mathlib.Omega.{arith}
use native.Mathlib.Nat.{suc-add, add-zero, zero-add}
use lib.ListN.{length, get_or, take, drop, length-drop}
use lib.Seq.{drop-drop}
use Rattle.wire.specs.Wire.{value, digits_of, be, byte_sum, check_byte, spelt, field}
use Rattle.wire.specs.Inner.Spelling.{spell, joined}
use Rattle.wire.proofs.Bytes.{AllBytes, value-digit, spelt-below, sum_append}
use Rattle.wire.proofs.Spelling.{length-spell}

-- the digits of bytes spell them
pub spell-digits : (bs rest : List ℕ) → AllBytes bs → spell (length bs) (digits_of bs ++ rest) ≡ bs
spell-digits [] rest h = refl
spell-digits (b ∷ bs) rest h =
    let high = value-digit (b / 16) (omega arith) in
    let low = value-digit (b % 16) (omega arith) in
    rw (spell-digits bs rest h.1, high, low) (ap (λ (x : ℕ). x ∷ bs) {x = (0 * 16 + b / 16) * 16 + b % 16} {y = b} (omega arith))

-- what digits spell are bytes
pub spell-bytes : (n : ℕ) (l : List ℕ) → AllBytes (spell n l)
spell-bytes zero l = tt
spell-bytes (suc n) l = (spelt-below (drop (2 * 0) l) 2 2 (omega arith), spell-bytes n (drop 2 l))

-- each of them
pub spell-at : (i n : ℕ) (l : List ℕ) → i < n → get_or (spell n l) i 0 ≡ field i 1 l
spell-at i zero l h = absurd (omega arith)
spell-at zero (suc n) l h = refl
spell-at (suc i) (suc n) l h =
    let a : 2 + 2 * i ≡ 2 * suc i = omega arith in
    spell-at i n (drop 2 l) (omega arith) ∙ ap (λ (xs : List ℕ). spelt 0 (take 2 xs)) (drop-drop (2 * i) 2 l ∙ ap (λ (k : ℕ). drop k l) a)

-- the first of them
pub take-spell : (k n : ℕ) (l : List ℕ) → k ≤ n → take k (spell n l) ≡ spell k l
take-spell zero n l h = refl
take-spell (suc k) zero l h = absurd (omega arith)
take-spell (suc k) (suc n) l h = ap (λ (xs : List ℕ). field 0 1 l ∷ xs) (take-spell k n (drop 2 l) (omega arith))

-- and those behind
pub drop-spell : (at n : ℕ) (l : List ℕ) → drop at (spell (at + n) l) ≡ spell n (drop (2 * at) l)
drop-spell zero n l = ap (λ (k : ℕ). spell k l) (zero-add n)
drop-spell (suc at) n l =
    let a : 2 + 2 * at ≡ 2 * suc at = omega arith in
    ap (λ (k : ℕ). drop (suc at) (spell k l)) (suc-add at n)
    ∙ drop-spell at n (drop 2 l)
    ∙ ap (spell n) (drop-drop (2 * at) 2 l ∙ ap (λ (k : ℕ). drop k l) a)

-- and those between
pub part_spelt : (at k n : ℕ) (l : List ℕ) → at + k ≤ n → take k (drop at (spell n l)) ≡ spell k (drop (2 * at) l)
part_spelt at k n l h =
    let e : n ≡ at + (n - at) = omega arith in
    ap (λ (j : ℕ). take k (drop at (spell j l))) e ∙ ap (take k) (drop-spell at (n - at) l) ∙ take-spell k (n - at) (drop (2 * at) l) (omega arith)

-- bytes make the number that their digits spell
pub joined-spell : (k m : ℕ) (l : List ℕ) → 2 * k ≤ length l → joined m (spell k l) ≡ spelt m (take (2 * k) l)
joined-spell zero m l h = refl
joined-spell (suc k) m [] h = absurd (omega arith)
joined-spell (suc k) m (x ∷ []) h = absurd (omega arith)
joined-spell (suc k) m (x ∷ y ∷ l) h =
    let a : suc (suc (2 * k)) ≡ 2 * suc k = omega arith in
    ap (λ (z : ℕ). joined z (spell k l)) {x = m * 256 + ((0 * 16 + value x) * 16 + value y)} {y = (m * 16 + value x) * 16 + value y} (omega arith)
    ∙ joined-spell k ((m * 16 + value x) * 16 + value y) l (omega arith)
    ∙ ap (λ (z : ℕ). spelt m (take z (x ∷ y ∷ l))) a

-- a number's bytes are those that make it
pub be-joined : (bs : List ℕ) (j n : ℕ) (after : List ℕ) → AllBytes bs → be (j + length bs) (joined n bs) after ≡ be j n (bs ++ after)
be-joined [] j n after h = ap (λ (i : ℕ). be i n after) (add-zero j)
be-joined (b ∷ bs) j n after h =
    let e : j + suc (length bs) ≡ suc j + length bs = omega arith in
    let q : (n * 256 + b) / 256 ≡ n = omega arith in
    let r : (n * 256 + b) % 256 ≡ b = omega arith in
    ap (λ (i : ℕ). be i (joined (n * 256 + b) bs) after) e
    ∙ be-joined bs (suc j) (n * 256 + b) after h.1
    ∙ ap₂ (λ (x y : ℕ). be j x (y ∷ (bs ++ after))) q r

-- so they are where digits spell the number
pub field-bytes : (at k n : ℕ) (l after : List ℕ) → at + k ≤ n → 2 * n ≤ length l → be k (field at k l) after ≡ take k (drop at (spell n l)) ++ after
field-bytes at k n l after h m =
    let l' = drop (2 * at) l in
    let e : 0 + length (spell k l') ≡ k = zero-add _ ∙ length-spell k l' in
    ap (λ (x : ℕ). be k x after) (sym (joined-spell k 0 l' (simp length-drop (omega arith))))
    ∙ ap (λ (x : ℕ). be x (joined 0 (spell k l')) after) (sym e)
    ∙ be-joined (spell k l') 0 0 after (spell-bytes k l')
    ∙ ap (λ (xs : List ℕ). xs ++ after) (sym (part_spelt at k n l h))

-- and that number is what they make
pub field-joined : (at k n : ℕ) (l : List ℕ) → at + k ≤ n → 2 * n ≤ length l → joined 0 (take k (drop at (spell n l))) ≡ field at k l
field-joined at k n l h m = ap (joined 0) (part_spelt at k n l h) ∙ joined-spell k 0 (drop (2 * at) l) (simp length-drop (omega arith))

-- the last byte is the check byte where the sum of all is a multiple of 256
pub check_only : (bs : List ℕ) (b : ℕ) → b < 256 → byte_sum (bs ++ b ∷ []) % 256 ≡ 0 → b ≡ check_byte bs
unfolding check_byte
check_only bs b h e = let k : byte_sum (bs ++ b ∷ []) ≡ byte_sum bs + (b + 0) = sum_append bs (b ∷ []) in omega arith
