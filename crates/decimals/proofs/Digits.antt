-- Laws of digits: what io's contract says is the decimal, and how long it is.
use Prim.Native.Nat.{ℕ, zero, suc, ◌+◌, ◌-◌, ◌*◌, ◌/◌, ◌%◌, ◌^◌, ◌≤◌, ◌<◌}
use mathlib.Core.Bool.{Bool, true, false, cond}
use mathlib.Core.Path.{◌≡◌, sym, ap, ◌∙◌}
use mathlib.Core.List.{List, [], ◌∷◌, ◌++◌}
use native.Mathlib.Omega.{arith}
use native.Mathlib.Nat.{pow-suc}
use borrow.Author.Tests.{lt-ltb, le-ltb}
use lib.Dec.{ltb}
use lib.ListN.{length, length-append}
use Rattle.io.specs.Digits.{hex_digit_ascii, last_digits as io_digits, IsDigitCount}
use Rattle.decimals.specs.Decimals.{digit, last_digits, decimal, signed_decimal, pair}

glyph_digit : (d : ℕ) → d < 10 → hex_digit_ascii d ≡ digit d
glyph_digit d h = rw (lt-ltb d 10 h)

-- one digit less holds a tenth
tenth : (p n : ℕ) → p * 10 ≤ n → n < p * 10 * 10 → (p ≤ n / 10) × (n / 10 < p * 10)
tenth p n h l = (omega arith, omega arith)

positive : (k : ℕ) → 1 ≤ 10 ^ k
positive zero = omega arith
positive (suc k) = let h = positive k in rw (pow-suc 10 k) (omega arith)

-- the fewest digits that hold a number are its decimal
fewest_digits : (f k n : ℕ) → n < 10 ^ suc f → IsDigitCount 10 1 n k → io_digits 10 k n ≡ last_digits (suc f) n
unfolding last_digits
fewest_digits f zero n h w = absurd (omega arith)
fewest_digits f (suc zero) n h w =
    let small : n < 10 = w.1 in
    let same : n % 10 ≡ n = omega arith in
    rw (lt-ltb n 10 small, same) (ap (λ (d : ℕ). d ∷ []) (glyph_digit n small))
fewest_digits zero (suc (suc k)) n h w =
    let one : suc (suc k) - 1 ≡ suc k = omega arith in
    let least : 10 ^ suc k ≤ n = rw one at (w.2 (omega arith)) in
    let small : n < 10 = h in
    absurd (omega (arith, positive k, pow-suc 10 k))
fewest_digits (suc f) (suc (suc k)) n h w =
    let one : suc (suc k) - 1 ≡ suc k = omega arith in
    let least : 10 ^ suc k ≤ n = rw one at (w.2 (omega arith)) in
    let most : n < 10 ^ suc (suc k) = w.1 in
    let t = tenth (10 ^ k) n (rw (sym (pow-suc 10 k)) least) (rw (sym (pow-suc 10 k), sym (pow-suc 10 (suc k))) most) in
    let two : suc k - 1 ≡ k = omega arith in
    let large : 10 ≤ n = omega (arith, positive k, pow-suc 10 k) in
    let inner : n / 10 < 10 ^ suc f = omega (arith, pow-suc 10 (suc f)) in
    let front : io_digits 10 (suc k) (n / 10) ≡ last_digits (suc f) (n / 10) =
    fewest_digits f (suc k) (n / 10) inner (omega arith, rw (pow-suc 10 k) t.1, λ m. rw two t.0) in
    let low : n % 10 < 10 = omega arith in
    rw (le-ltb n 10 large, front, glyph_digit (n % 10) low)

-- what io promises of a number is its decimal
pub io_decimal : (n k : ℕ) (xs : List ℕ) → n < 2 ^ 64 → IsDigitCount 10 1 n k → xs ≡ io_digits 10 k n → xs ≡ decimal n
io_decimal n k xs h w e =
    let fits : n < 10 ^ 20 = omega arith in
    e ∙ fewest_digits 19 k n fits w

-- ── how long a number is ──

pub digits-short : (k n : ℕ) → length (last_digits k n) ≤ k
unfolding last_digits
digits-short zero n = omega arith
digits-short (suc k) n = go (ltb n 10) (digits-short k (n / 10))
  where
    go : (t : Bool) → length (last_digits k (n / 10)) ≤ k → length (cond t (digit n ∷ []) (last_digits k (n / 10) ++ (digit (n % 10) ∷ []))) ≤ suc k
    go true h = omega arith
    go false h = omega (arith, length-append (last_digits k (n / 10)) (digit (n % 10) ∷ []))

-- a number has 20 digits at most
pub decimal-short : (n : ℕ) → length (decimal n) ≤ 20
decimal-short n = digits-short 20 n

-- with a sign: a minus sign first, or the digits alone
pub minus-first : (negative : Bool) (n : ℕ) → negative ≡ true → signed_decimal negative n ≡ (45 ∷ []) ++ decimal n
unfolding signed_decimal
minus-first negative n e = rw e

pub digits-alone : (negative : Bool) (n : ℕ) → negative ≡ false → signed_decimal negative n ≡ decimal n
unfolding signed_decimal
digits-alone negative n e = rw e

-- which are 21 bytes at most
pub signed-short : (negative : Bool) (n : ℕ) → length (signed_decimal negative n) ≤ 21
unfolding signed_decimal
signed-short true n = omega (arith, decimal-short n)
signed-short false n = omega (arith, decimal-short n)

-- one of two digits
pub two_digits : (n : ℕ) → n < 100 → length (decimal n) ≤ 2
unfolding last_digits
two_digits n h = go (ltb n 10)
  where
    go : (t : Bool) → length (cond t (digit n ∷ []) (last_digits 19 (n / 10) ++ (digit (n % 10) ∷ []))) ≤ 2
    go true = omega arith
    go false =
        let small : n / 10 < 10 = omega arith in
        rw (lt-ltb (n / 10) 10 small) (omega arith)

pub pair-length : (a b : ℕ) → length (pair a b) ≡ length (decimal a) + length (decimal b) + 2
unfolding pair
pair-length a b =
    omega (arith, length-append (decimal a) (32 ∷ (decimal b ++ (10 ∷ []))), length-append (decimal b) (10 ∷ []))
