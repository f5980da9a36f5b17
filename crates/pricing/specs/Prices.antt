-- What positions count for at prices. The prices given are 32 numbers, 0 for a symbol without a price.
use Rattle.std.specs.Prelude.{ℕ, ◌*◌, Option, Some, None, Bool, true, not, ◌&&◌, cond, List, ltb, leb, eqb, get_or, length, ℤ, pos, nat_abs, ◌-ℤ◌, ◌*ℤ◌}
use Rattle.amount.specs.Sums.{all_to, sum_to, first_to}
use Rattle.types.specs.Limits.{symbols, max_price}
use Rattle.holding.specs.declared.Position.{Position}
use Rattle.pricing.specs.declared.Measure.{Measure}
use Rattle.pricing.specs.declared.Measure.TheVariants.{Worth, Size, Profit}

-- the number given for a symbol is a price or 0
abbrev pub is_price_at : List ℕ → ℕ → Bool
is_price_at ps i = leb (get_or ps i 0) max_price

-- 32 numbers, each a price or 0 for none
unfoldable pub are_prices : List ℕ → Bool
are_prices ps = eqb (length ps) symbols && all_to (is_price_at ps) symbols

-- what a position counts for at a price: its exposure, the size of that, or its unrealized profit, quantity·(price − average)
abbrev pub measured : Measure → Position → ℕ → ℤ
measured Worth p price = p.quantity.value *ℤ pos price
measured Size p price = pos (nat_abs p.quantity.value * price)
measured Profit p price = p.quantity.value *ℤ (pos price -ℤ pos p.average)

-- what the position of a symbol counts for, of those held; without a price its exposure is 0
abbrev pub measured_at : Measure → (ℕ → Position) → List ℕ → ℕ → ℤ
measured_at m held ps i = measured m (held i) (get_or ps i 0)

-- the sum over all symbols
abbrev pub total : Measure → (ℕ → Position) → List ℕ → ℤ
total m held ps = sum_to (measured_at m held ps) symbols

-- an open position, with a price or without one as asked
abbrev pub is_open : Bool → Position → ℕ → Bool
is_open priced p price = not (eqb (nat_abs p.quantity.value) 0) && cond (eqb price 0) (not priced) priced

-- the position of a symbol is so, of those held
abbrev pub is_open_at : Bool → (ℕ → Position) → List ℕ → ℕ → Bool
is_open_at priced held ps i = is_open priced (held i) (get_or ps i 0)

-- the smallest symbol with such a position, or 32
abbrev pub first_open : Bool → (ℕ → Position) → List ℕ → ℕ
first_open priced held ps = first_to (is_open_at priced held ps) symbols

-- a symbol, where the search found one
abbrev pub symbol_if : ℕ → Option ℕ
symbol_if i = cond (ltb i symbols) (Some i) None

-- gross is 0 or 100·|net| < gross, in exact numbers
abbrev pub is_neutral : ℤ → ℕ → Bool
is_neutral net gross = cond (eqb gross 0) true (ltb (100 * nat_abs net) gross)
