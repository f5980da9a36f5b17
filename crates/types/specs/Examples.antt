-- Each limit at its edge, in plain numbers: the last that is within it, and the first that is not.
use Rattle.std.specs.Prelude.{◌≡◌, refl, true, false, leb, pos, neg_ℤ}
use Rattle.types.specs.Limits.{sized_within, max_levels, symbols, max_volume, max_commission, max_deposit, max_position, max_money, last_sequence, max_digits, is_price, is_quantity}

-- prices are 1..=100,000,000, quantities 0..=1,000,000,000
pub levels-edges :
    (is_price 0 ≡ false) ×
    (is_price 1 ≡ true) ×
    (is_price 100000000 ≡ true) ×
    (is_price 100000001 ≡ false) ×
    (is_quantity 0 ≡ true) ×
    (is_quantity 1000000000 ≡ true) ×
    (is_quantity 1000000001 ≡ false)
levels-edges = (refl, refl, refl, refl, refl, refl, refl)

-- 128 levels a side, 32 symbols, a volume of 128·10^9, the last u64, and 4,120 digits
pub counts-edges :
    (leb 128 max_levels ≡ true) ×
    (leb 129 max_levels ≡ false) ×
    (leb 32 symbols ≡ true) ×
    (leb 33 symbols ≡ false) ×
    (leb 128000000000 max_volume ≡ true) ×
    (leb 128000000001 max_volume ≡ false) ×
    (leb 18446744073709551615 last_sequence ≡ true) ×
    (leb 18446744073709551616 last_sequence ≡ false) ×
    (leb 4120 max_digits ≡ true) ×
    (leb 4121 max_digits ≡ false)
counts-edges = (refl, refl, refl, refl, refl, refl, refl, refl, refl, refl)

-- a commission within ±10^15, a deposit within ±10^18, a position within ±10^9 lots, money totals within ±4·10^18
pub signed-edges :
    (sized_within max_commission (pos 1000000000000000) ≡ true) ×
    (sized_within max_commission (neg_ℤ (pos 1000000000000001)) ≡ false) ×
    (sized_within max_deposit (neg_ℤ (pos 1000000000000000000)) ≡ true) ×
    (sized_within max_deposit (pos 1000000000000000001) ≡ false) ×
    (sized_within max_position (neg_ℤ (pos 1000000000)) ≡ true) ×
    (sized_within max_position (pos 1000000001) ≡ false) ×
    (sized_within max_money (pos 4000000000000000000) ≡ true) ×
    (sized_within max_money (neg_ℤ (pos 4000000000000000001)) ≡ false)
signed-edges = (refl, refl, refl, refl, refl, refl, refl, refl)
