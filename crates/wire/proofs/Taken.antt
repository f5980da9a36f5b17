-- What digits can be taken for: other bytes have other digits, one digit changed shows in the sum, and what begins with the digits of
-- bytes goes on with digits of bytes.
use Prim.Native.Nat.{ℕ, zero, suc, ◌+◌, ◌*◌, ◌/◌, ◌%◌, ◌<◌}
use mathlib.Core.Path.{◌≡◌, refl, ap}
use mathlib.Core.List.{List, [], ◌∷◌, ◌++◌}
use native.Mathlib.Omega.{arith}
use lib.ListN.{length, set, length-append}
use Rattle.wire.specs.Wire.{line_feed, digit, digits_of, byte_sum}
use Rattle.wire.proofs.Bytes.{AllBytes}

one_value : (a b : ℕ) → a < 16 → b < 16 → digit a ≡ digit b → a ≡ b
unfolding digit
one_value a b p q e = omega arith

one_byte : (a b : ℕ) → a < 256 → b < 256 → digit (a / 16) ≡ digit (b / 16) → digit (a % 16) ≡ digit (b % 16) → a ≡ b
one_byte a b p q e f =
    let h : a / 16 ≡ b / 16 = one_value (a / 16) (b / 16) (omega arith) (omega arith) e in
    let l : a % 16 ≡ b % 16 = one_value (a % 16) (b % 16) (omega arith) (omega arith) f in
    omega arith

pub same_bytes : (xs ys : List ℕ) → AllBytes xs → AllBytes ys → digits_of xs ≡ digits_of ys → xs ≡ ys
same_bytes [] [] p q e = refl
same_bytes [] (y ∷ ys) p q e = cc
same_bytes (x ∷ xs) [] p q e = cc
same_bytes (x ∷ xs) (y ∷ ys) p q e =
    let h : x ≡ y = one_byte x y p.0 q.0 (cc) (cc) in
    let t : xs ≡ ys = same_bytes xs ys p.1 q.1 (cc) in
    cc

-- where the rest is the same and the sum too, the first byte is
first_byte : (x y : ℕ) (xs ys : List ℕ) → x < 256 → y < 256 → xs ≡ ys → (x + byte_sum xs) % 256 ≡ (y + byte_sum ys) % 256 → ◌≡◌ {A = List ℕ} (x ∷ xs) (y ∷ ys)
first_byte x y xs ys p q t s =
    let u : byte_sum xs ≡ byte_sum ys = ap byte_sum t in
    let h : x ≡ y = omega arith in
    cc

-- one digit changed, and the sum still right: nothing changed
pub one-digit : (xs ys : List ℕ) (i c : ℕ) → AllBytes xs → AllBytes ys → set (digits_of xs) i c ≡ digits_of ys → byte_sum xs % 256 ≡ byte_sum ys % 256 → xs ≡ ys
one-digit [] [] i c p q e s = refl
one-digit [] (y ∷ ys) i c p q e s = cc
one-digit (x ∷ xs) [] zero c p q e s = cc
one-digit (x ∷ xs) [] (suc zero) c p q e s = cc
one-digit (x ∷ xs) [] (suc (suc i)) c p q e s = cc
one-digit (x ∷ xs) (y ∷ ys) zero c p q e s = first_byte x y xs ys p.0 q.0 (same_bytes xs ys p.1 q.1 (cc)) s
one-digit (x ∷ xs) (y ∷ ys) (suc zero) c p q e s = first_byte x y xs ys p.0 q.0 (same_bytes xs ys p.1 q.1 (cc)) s
one-digit (x ∷ xs) (y ∷ ys) (suc (suc i)) c p q e s =
    let h : x ≡ y = one_byte x y p.0 q.0 (cc) (cc) in
    let t : xs ≡ ys = one-digit xs ys i c p.1 q.1 (cc) (omega arith) in
    cc

-- where digits that go on make a line of bytes, the bytes go on too, and the line feed ends them
pub goes_on : (xs ys zs : List ℕ) → AllBytes xs → AllBytes ys → digits_of xs ++ zs ≡ digits_of ys ++ line_feed ∷ []
    → (ws : List ℕ) × (xs ++ ws ≡ ys) × (zs ≡ digits_of ws ++ line_feed ∷ [])
unfolding digit
goes_on [] ys zs p q e = (ys, refl, e)
goes_on (x ∷ xs) [] zs p q e = let z : 48 + x / 16 + 7 * (x / 16 / 10) ≡ 10 = cc in absurd (omega arith)
goes_on (x ∷ xs) (y ∷ ys) zs p q e =
    let h : x ≡ y = one_byte x y p.0 q.0 (cc) (cc) in
    let r = goes_on xs ys zs p.1 q.1 (cc) in
    let f : xs ++ r.0 ≡ ys = r.1 in
    (r.0, (cc), r.2)

pub same_front : (xs ys : List ℕ) (a : ℕ) → xs ++ a ∷ [] ≡ ys ++ a ∷ [] → xs ≡ ys
same_front [] [] a e = refl
same_front [] (y ∷ ys) a e = let z = simp length-append at (ap length e) in absurd (omega arith)
same_front (x ∷ xs) [] a e = let z = simp length-append at (ap length e) in absurd (omega arith)
same_front (x ∷ xs) (y ∷ ys) a e = let t : xs ≡ ys = same_front xs ys a (cc) in cc
