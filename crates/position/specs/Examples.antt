-- 01's ledger examples and the corners of the limits, computed.
use Rattle.std.specs.Prelude.{ℕ, ◌≡◌, refl, [], ◌∷◌, replicate, ℤ, pos, neg_ℤ}
use Rattle.amount.specs.Sums.{all_to}
use Rattle.amount.specs.Whole.{amount}
use Rattle.types.specs.Replies.{done, refused}
use Rattle.types.specs.declared.Side.{Side}
use Rattle.types.specs.declared.Side.TheVariants.{Bid, Ask}
use Rattle.holding.specs.Holding.{is_position, is_fill, average_after, position_after}
use Rattle.holding.specs.Rows.{are_positions}
use Rattle.position.specs.Ledger.{position_at, is_ledger, changed, kept, fresh, created, filled, settled, booked, booked_all, deposited}
use Rattle.holding.specs.declared.Position.{Position}
use Rattle.holding.specs.declared.Fill.{Fill}
use Rattle.position.specs.declared.PositionLedger.{PositionLedger}

-- a fill of symbol 0
abbrev fill : Side → ℕ → ℕ → ℤ → Fill
fill side n price commission = record { symbol = 0; side = side; quantity = n; price = price; commission = amount commission }

-- lots at an average, nothing realized
abbrev pub held : ℤ → ℕ → Position
held q average = record { quantity = amount q; average = average; realized = amount (pos 0) }

-- cash, and the positions of symbols 0 and 1
abbrev pub two : ℤ → Position → Position → PositionLedger
two cash p q = record {
  cash = amount cash;
  commission = amount (pos 0);
  quantities = p.quantity.value ∷ q.quantity.value ∷ replicate 30 (pos 0);
  averages = p.average ∷ q.average ∷ replicate 30 0;
  realized = p.realized.value ∷ q.realized.value ∷ replicate 30 (pos 0);
}

-- cash, and the position of symbol 0
abbrev pub one : ℤ → ℤ → ℕ → PositionLedger
one cash q average = two cash (held q average) (held (pos 0) 0)

-- less than zero
abbrev pub minus : ℕ → ℤ
minus n = neg_ℤ (pos n)

-- the average and the lots that a fill leaves
abbrev leaves : PositionLedger → Fill → ℕ × ℤ
leaves l f = let p = position_at (booked l f).ledger 0 in (p.average, p.quantity.value)

-- cash 10000: buy 3 at 100, commission 2; buy 2 at 101; sell 4 at 110, commission 1; sell 3 at 90
pub worked :
    let l = booked_all (fresh (pos 10000)) (fill Bid 3 100 (pos 2) ∷ fill Bid 2 101 (pos 0) ∷ fill Ask 4 110 (pos 1) ∷ fill Ask 3 90 (pos 0) ∷ []) in
    (l.cash.value ≡ pos 10205) × (position_at l 0 ≡ record { quantity = amount (minus 2); average = 90; realized = amount (pos 27) })
unfolding booked_all booked settled filled is_ledger are_positions is_fill is_position position_after average_after all_to
worked = (refl, refl)

-- cash 100, buy 1 at 99: commission 2 is 8 (101, 100), and commission 1 leaves 0
pub bounded :
    (booked (fresh (pos 100)) (fill Bid 1 99 (pos 2)) ≡ kept (fresh (pos 100)) 8 (pos 101 ∷ pos 100 ∷ []))
    × ((booked (fresh (pos 100)) (fill Bid 1 99 (pos 1))).ledger.cash.value ≡ pos 0)
unfolding booked settled filled is_ledger are_positions is_fill is_position position_after average_after all_to
bounded = (refl, refl)

-- an increase rounds down, a partial close keeps, flat is 0, a turnover takes the price though few lots are left
pub averages :
    (leaves (one (pos 9) (pos 1) 1) (fill Bid 1 2 (pos 0)) ≡ (1, pos 2))
    × (leaves (one (pos 9) (pos 5) 100) (fill Ask 2 90 (pos 0)) ≡ (100, pos 3))
    × (leaves (one (pos 9) (pos 5) 100) (fill Ask 5 90 (pos 0)) ≡ (0, pos 0))
    × (leaves (one (pos 9) (pos 5) 100) (fill Ask 8 90 (pos 0)) ≡ (90, minus 3))
    × (leaves (one (pos 9) (minus 5) 100) (fill Ask 0 90 (pos 1)) ≡ (100, minus 5))
unfolding booked settled filled is_ledger are_positions is_fill is_position position_after average_after all_to
averages = (refl, refl, refl, refl, refl)

-- quantity 0 still obeys 8; a rebate that leaves cash negative is 8; an Ask may leave it so
pub empty-fills :
    ((booked (fresh (pos 0)) (fill Bid 0 1 (pos 0))).reply ≡ done tt)
    × ((booked (fresh (pos 0)) (fill Bid 0 1 (pos 1))).reply ≡ refused 8 (pos 1 ∷ pos 0 ∷ []))
    × ((booked (fresh (minus 5)) (fill Bid 0 1 (minus 3))).reply ≡ refused 8 (minus 3 ∷ minus 5 ∷ []))
    × ((booked (fresh (pos 0)) (fill Ask 0 1 (pos 1))).ledger.cash.value ≡ minus 1)
unfolding booked settled filled is_ledger are_positions is_fill is_position position_after average_after all_to
empty-fills = (refl, refl, refl, refl)

-- 10^9 lots either way, and one more is 9; but 8 goes first
pub lots-limits :
    (leaves (fresh (pos 1000000000)) (fill Bid 1000000000 1 (pos 0)) ≡ (1, pos 1000000000))
    × (leaves (fresh (pos 0)) (fill Ask 1000000000 1 (pos 0)) ≡ (1, minus 1000000000))
    × ((booked (one (pos 1) (pos 1000000000) 1) (fill Bid 1 1 (pos 0))).reply ≡ refused 9 [])
    × ((booked (one (pos 0) (minus 1000000000) 1) (fill Ask 1 1 (pos 0))).reply ≡ refused 9 [])
    × ((booked (one (pos 0) (pos 1000000000) 1) (fill Bid 1 1 (pos 0))).reply ≡ refused 8 (pos 1 ∷ pos 0 ∷ []))
unfolding booked settled filled is_ledger are_positions is_fill is_position position_after average_after all_to
lots-limits = (refl, refl, refl, refl, refl)

-- 4·10^18 of money, 10^18 of deposit, 10^15 of commission, and one beyond each
pub money-limits :
    (created (minus 4000000000000000000) ≡ changed (fresh (minus 4000000000000000000)))
    × (created (pos 4000000000000000001) ≡ kept (fresh (pos 0)) 2 [])
    × ((deposited (fresh (pos 3000000000000000000)) (pos 1000000000000000000)).reply ≡ done tt)
    × ((deposited (fresh (minus 3000000000000000001)) (minus 1000000000000000000)).reply ≡ refused 9 [])
    × ((deposited (fresh (pos 0)) (pos 1000000000000000001)).reply ≡ refused 2 [])
    × ((booked (fresh (pos 0)) (fill Bid 0 1 (minus 1000000000000000))).ledger.cash.value ≡ pos 1000000000000000)
    × ((booked (fresh (pos 0)) (fill Ask 0 1 (pos 1000000000000001))).reply ≡ refused 2 [])
    × ((booked (fresh (pos 4000000000000000000)) (fill Ask 1 1 (pos 0))).reply ≡ refused 9 [])
unfolding created booked settled filled deposited is_ledger are_positions is_fill is_position position_after average_after all_to
money-limits = (refl, refl, refl, refl, refl, refl, refl, refl)

-- an average where there are no lots, or none where there are, is no ledger
pub no-ledgers :
    ((booked (one (pos 0) (pos 0) 1) (fill Bid 0 1 (pos 0))).reply ≡ refused 1 [])
    × ((deposited (one (pos 0) (pos 1) 0) (pos 0)).reply ≡ refused 1 [])
    × ((booked (one (pos 0) (pos 1) 100000001) (fill Bid 0 1 (pos 0))).reply ≡ refused 1 [])
unfolding booked deposited is_ledger are_positions is_position all_to
no-ledgers = (refl, refl, refl)
