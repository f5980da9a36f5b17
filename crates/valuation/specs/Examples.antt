-- 01's examples of what a ledger is worth, and the corners of the limits, computed.
use Rattle.std.specs.Prelude.{ℕ, ◌≡◌, refl, true, false, List, [], ◌∷◌, replicate, pos}
use Rattle.amount.specs.Sums.{sum_to, all_to, first_to}
use Rattle.amount.specs.Whole.{amount}
use Rattle.types.specs.Replies.{done, refused}
use Rattle.holding.specs.Holding.{is_position}
use Rattle.holding.specs.Rows.{are_positions}
use Rattle.pricing.specs.Prices.{are_prices, is_neutral}
use Rattle.position.specs.Ledger.{is_ledger, fresh}
use Rattle.position.specs.Examples.{held, two, one, minus}
use Rattle.valuation.specs.Values.{all_priced, unrealized, unrealized_total, liquidation, net_exposure, neutral}

-- the prices of symbols 0 and 1
abbrev prices : ℕ → ℕ → List ℕ
prices x y = x ∷ y ∷ replicate 30 0

-- exposures 51 and -50 are neutral, 101 and -99 are not; net 1 of gross 101 is, and so is nothing at all
pub neutrals :
    (neutral (two (pos 0) (held (pos 51) 1) (held (minus 50) 1)) (prices 1 1) ≡ done true)
    × (neutral (two (pos 0) (held (pos 101) 1) (held (minus 99) 1)) (prices 1 1) ≡ done false)
    × (is_neutral (pos 1) 101 ≡ true)
    × (is_neutral (pos 1) 100 ≡ false)
    × (neutral (fresh (pos 0)) (prices 0 0) ≡ done true)
    × (is_neutral (pos 32000000000000000) 3200000000000000001 ≡ true)
unfolding neutral all_priced are_prices is_ledger are_positions is_position all_to first_to sum_to
neutrals = (refl, refl, refl, refl, refl, refl)

-- 13 names the smallest open symbol without a price; net exposure skips it, and is 10 if none has one
pub unpriced :
    (liquidation (two (pos 5) (held (pos 1) 1) (held (minus 2) 1)) (prices 0 0) ≡ refused 13 (pos 0 ∷ []))
    × (unrealized_total (two (pos 5) (held (pos 1) 1) (held (minus 2) 1)) (prices 4 0) ≡ refused 13 (pos 1 ∷ []))
    × (net_exposure (two (pos 5) (held (pos 1) 1) (held (minus 2) 1)) (prices 4 0) ≡ done (amount (pos 4)))
    × (net_exposure (two (pos 5) (held (pos 1) 1) (held (minus 2) 1)) (prices 0 0) ≡ refused 10 [])
unfolding liquidation unrealized_total net_exposure all_priced are_prices is_ledger are_positions is_position all_to first_to sum_to
unpriced = (refl, refl, refl, refl)

-- with all prices: cash and exposures, profits; a symbol never traded is 0; other lengths, symbols and prices are 2
pub valued :
    (liquidation (two (pos 5) (held (pos 1) 1) (held (minus 2) 1)) (prices 4 3) ≡ done (amount (pos 3)))
    × (unrealized_total (two (pos 5) (held (pos 1) 1) (held (minus 2) 1)) (prices 4 3) ≡ done (amount (minus 1)))
    × (unrealized (one (pos 0) (minus 2) 7) 0 9 ≡ done (amount (minus 4)))
    × (unrealized (fresh (pos 0)) 31 9 ≡ done (amount (pos 0)))
    × (unrealized (fresh (pos 0)) 32 9 ≡ refused 2 [])
    × (unrealized (fresh (pos 0)) 0 0 ≡ refused 2 [])
    × (liquidation (fresh (pos 0)) (replicate 31 1) ≡ refused 2 [])
    × (net_exposure (fresh (pos 0)) (prices 100000001 0) ≡ refused 2 [])
unfolding liquidation unrealized unrealized_total net_exposure all_priced are_prices is_ledger are_positions is_position all_to first_to sum_to
valued = (refl, refl, refl, refl, refl, refl, refl, refl)
