-- What a ledger is worth at given prices: 32 numbers, 0 for a symbol without a price.
use Rattle.std.specs.Prelude.{ℕ, Bool, false, true, ◌&&◌, cond, List, [], ◌∷◌, ltb, pos, nat_abs, ◌+ℤ◌}
use Rattle.amount.specs.Whole.{amount}
use Rattle.amount.specs.declared.Amount.{Amount}
use Rattle.types.specs.Limits.{symbols, is_price}
use Rattle.types.specs.Replies.{Reply, done, refused, if_record, if_within, if_value}
use Rattle.pricing.specs.Prices.{are_prices, measured, total, first_open, is_neutral}
use Rattle.position.specs.declared.PositionLedger.{PositionLedger}
use Rattle.pricing.specs.declared.Measure.TheVariants.{Worth, Size, Profit}
use Rattle.position.specs.Ledger.{position_at, is_ledger}

-- 1, 2, then 13 with the smallest open symbol without a price
unfoldable pub all_priced : PositionLedger → List ℕ → Reply (Unit {0})
all_priced l ps =
    if_record (is_ledger l)
    (if_within (are_prices ps)
    (cond (ltb (first_open false (position_at l) ps) symbols) (refused 13 (pos (first_open false (position_at l) ps) ∷ [])) (done tt)))

-- the value, if there is no refusal before it
abbrev pub and_then : {A : Type 0} → Reply (Unit {0}) → A → Reply A
and_then (done _) a = done a
and_then (refused n vs) a = refused n vs

-- `checked_unrealized_pnl`: one symbol, one given price
unfoldable pub unrealized : PositionLedger → ℕ → ℕ → Reply Amount
unrealized l symbol price =
    if_record (is_ledger l) (if_within (ltb symbol symbols && is_price price) (done (amount (measured Profit (position_at l symbol) price))))

-- `unrealized_pnl_total`: the sum of quantity·(price − average)
unfoldable pub unrealized_total : PositionLedger → List ℕ → Reply Amount
unrealized_total l ps = and_then (all_priced l ps) (amount (total Profit (position_at l) ps))

-- `net_liquidation_value`: cash and all exposures
unfoldable pub liquidation : PositionLedger → List ℕ → Reply Amount
liquidation l ps = and_then (all_priced l ps) (amount (l.cash.value +ℤ total Worth (position_at l) ps))

-- `net_market_exposure`: skips open positions without a price, and is 10 if none has one
unfoldable pub net_exposure : PositionLedger → List ℕ → Reply Amount
net_exposure l ps =
    if_record (is_ledger l)
    (if_within (are_prices ps)
    (if_value (ltb (first_open true (position_at l) ps) symbols) (done (amount (total Worth (position_at l) ps)))))

-- `delta_neutral_check`
unfoldable pub neutral : PositionLedger → List ℕ → Reply Bool
neutral l ps = and_then (all_priced l ps) (is_neutral (total Worth (position_at l) ps) (nat_abs (total Size (position_at l) ps)))
