-- Numbers and pairs as bytes.
use Rattle.std.specs.Prelude.{true, false, ◌≡◌, refl, [], ◌∷◌}
use Rattle.decimals.specs.Decimals.{last_digits, decimal, signed_decimal, pair}

-- "0", "10", "907"
small : (decimal 0 ≡ 48 ∷ []) × (decimal 10 ≡ 49 ∷ 48 ∷ []) × (decimal 907 ≡ 57 ∷ 48 ∷ 55 ∷ [])
unfolding last_digits
small = (refl, refl, refl)

-- the largest u64 has all its 20 digits: "18446744073709551615"
largest :
    decimal 18446744073709551615 ≡
    49 ∷ 56 ∷ 52 ∷ 52 ∷ 54 ∷ 55 ∷ 52 ∷ 52 ∷ 48 ∷ 55 ∷ 51 ∷ 55 ∷ 48 ∷ 57 ∷ 53 ∷ 53 ∷ 49 ∷ 54 ∷ 49 ∷ 53 ∷ []
unfolding last_digits
largest = refl

-- "-2", "27", "0"; the least i64: "-9223372036854775808"
signed :
    (signed_decimal true 2 ≡ 45 ∷ 50 ∷ []) × (signed_decimal false 27 ≡ 50 ∷ 55 ∷ []) × (signed_decimal false 0 ≡ 48 ∷ [])
    × (signed_decimal true 9223372036854775808 ≡
    45 ∷ 57 ∷ 50 ∷ 50 ∷ 51 ∷ 51 ∷ 55 ∷ 50 ∷ 48 ∷ 51 ∷ 54 ∷ 56 ∷ 53 ∷ 52 ∷ 55 ∷ 55 ∷ 53 ∷ 56 ∷ 48 ∷ 56 ∷ [])
unfolding signed_decimal last_digits
signed = (refl, refl, refl, refl)

-- "3 14" and a line feed
line : pair 3 14 ≡ 51 ∷ 32 ∷ 49 ∷ 52 ∷ 10 ∷ []
unfolding pair last_digits
line = refl
