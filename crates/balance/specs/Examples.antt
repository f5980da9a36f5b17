-- Histories, computed: what is left of them, what is read from them, and the gap. All answers are written out.
use Rattle.std.specs.Prelude.{ℕ, ◌≡◌, refl, List, [], ◌∷◌, ◌++◌, ℤ, pos}
use Rattle.amount.specs.Sums.{all_to, sum_to}
use Rattle.amount.specs.Whole.{amount}
use Rattle.types.specs.Replies.{refused}
use Rattle.types.specs.declared.Side.{Side}
use Rattle.types.specs.declared.Side.TheVariants.{Bid, Ask}
use Rattle.holding.specs.Holding.{is_position, is_fill, average_after, remainder_after, position_after}
use Rattle.holding.specs.Rows.{are_positions}
use Rattle.holding.specs.declared.Position.{Position}
use Rattle.position.specs.Ledger.{position_at, is_ledger, created, filled, settled, booked, deposited}
use Rattle.position.specs.Examples.{minus}
use Rattle.balance.specs.Balance.{Event, fill, deposit, offered, offered_all, opened, account, deposits, Increase, increases, sum_over, long_remainders, short_remainders, with_remainder, gap}

-- so many lots of a symbol, with this commission
abbrev trade : Side → ℕ → ℕ → ℕ → ℤ → Event
trade side symbol n price commission = fill (record { symbol = symbol; side = side; quantity = n; price = price; commission = amount commission })

-- bought without commission
abbrev buy : ℕ → ℕ → ℕ → Event
buy symbol n price = trade Bid symbol n price (pos 0)

-- sold without commission
abbrev sell : ℕ → ℕ → ℕ → Event
sell symbol n price = trade Ask symbol n price (pos 0)

-- of a side, what it leaves over, and the size of the new quantity
abbrev increase : Side → ℕ → ℕ → Increase
increase side remainder size = record { side = side; remainder = remainder; size = size }

-- lots, their average and the profit
abbrev holding : ℤ → ℕ → ℤ → Position
holding q average realized = record { quantity = amount q; average = average; realized = amount realized }

-- a position that was never touched
abbrev untouched : Position
untouched = holding (pos 0) 0 (pos 0)

-- what stands after a history that is offered to a ledger opened with this cash: its cash, and the positions of symbols 0 and 1
abbrev standing : ℤ → List Event → ℤ × Position × Position
standing cash es = let l = offered_all (opened cash) es in (l.cash.value, position_at l 0, position_at l 1)

-- what is read from it: the accepted deposits and increases
abbrev accepted : ℤ → List Event → ℤ × List Increase
accepted cash es = (deposits (opened cash) es, increases (opened cash) es)

-- the account after it; the remainders of long positions, and of short ones; and the gap
abbrev balanced : ℤ → List Event → ℤ × ℕ × ℕ × ℕ
balanced cash es =
    let l = opened cash in
    let is = increases l es in
    (account (offered_all l es), long_remainders is, short_remainders is, gap cash l es)

-- cash 10000: buy 3 at 100, commission 2; buy 2 at 101; sell 4 at 110, commission 1; sell 3 at 90. Of 502 over 5 lots 2 are left over, and the
-- account is 10205 - 2·90 - 27
pub worked :
    let es = trade Bid 0 3 100 (pos 2) ∷ buy 0 2 101 ∷ trade Ask 0 4 110 (pos 1) ∷ sell 0 3 90 ∷ [] in
    (standing (pos 10000) es ≡ (pos 10205, holding (minus 2) 90 (pos 27), untouched))
    × (accepted (pos 10000) es ≡ (pos 0, increase Bid 0 3 ∷ increase Bid 2 5 ∷ [])) × (balanced (pos 10000) es ≡ (pos 9998, 2, 0, 2))
unfolding offered_all deposits increases sum_over created booked settled filled deposited is_ledger are_positions is_fill is_position position_after average_after remainder_after all_to sum_to
worked = (refl, refl, refl)

-- cash -1: sell 3 at 100, and 2 at 101. What is left over is added: the account is 501 - 5·100
pub short :
    let es = sell 0 3 100 ∷ sell 0 2 101 ∷ [] in
    (standing (minus 1) es ≡ (pos 501, holding (minus 5) 100 (pos 0), untouched))
    × (accepted (minus 1) es ≡ (pos 0, increase Ask 0 3 ∷ increase Ask 2 5 ∷ [])) × (balanced (minus 1) es ≡ (pos 1, 0, 2, 2))
unfolding offered_all deposits increases sum_over created booked settled filled deposited is_ledger are_positions is_fill is_position position_after average_after remainder_after all_to sum_to
short = (refl, refl, refl)

-- cash 1000: buy 2 at 100 and 1 at 101, and 1 is left over; sell 5 at 90, commission 7, and the turnover is no increase; sell 1 at 91, and 1 is left
-- over of a short position. The two cancel
pub turned :
    let es = buy 0 2 100 ∷ buy 0 1 101 ∷ trade Ask 0 5 90 (pos 7) ∷ [] in
    (standing (pos 1000) es ≡ (pos 1142, holding (minus 2) 90 (minus 37), untouched))
    × (accepted (pos 1000) es ≡ (pos 0, increase Bid 0 2 ∷ increase Bid 1 3 ∷ [])) × (balanced (pos 1000) es ≡ (pos 999, 1, 0, 1))
    × (accepted (pos 1000) (es ++ sell 0 1 91 ∷ []) ≡ (pos 0, increase Bid 0 2 ∷ increase Bid 1 3 ∷ increase Ask 1 3 ∷ []))
    × (balanced (pos 1000) (es ++ sell 0 1 91 ∷ []) ≡ (pos 1000, 1, 1, 0))
unfolding offered_all deposits increases sum_over created booked settled filled deposited is_ledger are_positions is_fill is_position position_after average_after remainder_after all_to sum_to
turned = (refl, refl, refl, refl, refl)

-- cash 100, two symbols: deposit 50; buy 1 of symbol 0 at 10; sell 2 of symbol 1 at 20. Refused are a deposit, a buy that would leave 1 over, and a
-- symbol that there is not. Then take out 30; buy 2 of symbol 0 at 11, and 2 are left over; sell 1 of symbol 1 at 21, and 1 is left over
pub mixed :
    let before = deposit (pos 50) ∷ buy 0 1 10 ∷ sell 1 2 20 ∷ [] in
    let between = deposit (pos 1000000000000000001) ∷ buy 0 2 99 ∷ sell 32 1 1 ∷ [] in
    let es = before ++ (between ++ deposit (minus 30) ∷ buy 0 2 11 ∷ sell 1 1 21 ∷ []) in
    let l = offered_all (opened (pos 100)) before in
    ((offered l (deposit (pos 1000000000000000001))).reply ≡ refused 2 []) × ((offered l (buy 0 2 99)).reply ≡ refused 8 (pos 198 ∷ pos 180 ∷ []))
    × ((offered l (sell 32 1 1)).reply ≡ refused 2 []) × (standing (pos 100) es ≡ (pos 149, holding (pos 3) 10 (pos 0), holding (minus 3) 20 (pos 0)))
    × (accepted (pos 100) es ≡ (pos 20, increase Bid 0 1 ∷ increase Ask 0 2 ∷ increase Bid 2 3 ∷ increase Ask 1 3 ∷ []))
    × (balanced (pos 100) es ≡ (pos 119, 2, 1, 1))
unfolding offered_all deposits increases sum_over created booked settled filled deposited is_ledger are_positions is_fill is_position position_after average_after remainder_after all_to sum_to
mixed = (refl, refl, refl, refl, refl, refl)

-- cash 9: buy 1 at 1 and 1 at 2, and the gap is one below its bound of 2. A Bid of quantity 0, with a rebate of 3, is an increase of the long position
-- that leaves nothing; an Ask of quantity 0, commission 5, is none
pub tight :
    let es = buy 0 1 1 ∷ buy 0 1 2 ∷ trade Bid 0 0 7 (minus 3) ∷ trade Ask 0 0 7 (pos 5) ∷ [] in
    (standing (pos 9) es ≡ (pos 4, holding (pos 2) 1 (minus 2), untouched))
    × (accepted (pos 9) es ≡ (pos 0, increase Bid 0 1 ∷ increase Bid 1 2 ∷ increase Bid 0 2 ∷ [])) × (balanced (pos 9) es ≡ (pos 8, 1, 0, 1))
    × (with_remainder (increases (opened (pos 9)) es) ≡ increase Bid 1 2 ∷ [])
unfolding offered_all deposits increases sum_over with_remainder created booked settled filled deposited is_ledger are_positions is_fill is_position position_after average_after remainder_after all_to sum_to
tight = (refl, refl, refl, refl)

-- at the limits: 10^9 lots of the last symbol, one of them at the least price, commission 7, and the others at the largest; one more is refused
pub lots-limits :
    let es = buy 31 999999999 100000000 ∷ trade Bid 31 1 1 (pos 7) ∷ buy 31 1 1 ∷ [] in
    let cash = pos 4000000000000000000 in
    let l = offered_all (opened cash) es in
    ((offered l (buy 31 1 1)).reply ≡ refused 9 []) × (position_at l 31 ≡ holding (pos 1000000000) 99999999 (minus 7))
    × (accepted cash es ≡ (pos 0, increase Bid 0 999999999 ∷ increase Bid 900000001 1000000000 ∷ []))
    × (balanced cash es ≡ (pos 3999999999099999999, 900000001, 0, 900000001))
unfolding offered_all deposits increases sum_over created booked settled filled deposited is_ledger are_positions is_fill is_position position_after average_after remainder_after all_to sum_to
lots-limits = (refl, refl, refl, refl)

-- at the limit of cash a deposit and a sale are refused; then 1 is taken out
pub cash-limit :
    let es = deposit (pos 1) ∷ sell 0 1 1 ∷ deposit (minus 1) ∷ [] in
    let cash = pos 4000000000000000000 in
    ((offered (opened cash) (deposit (pos 1))).reply ≡ refused 9 []) × (standing cash es ≡ (pos 3999999999999999999, untouched, untouched))
    × (accepted cash es ≡ (minus 1, [])) × (balanced cash es ≡ (pos 3999999999999999999, 0, 0, 0))
unfolding offered_all deposits increases sum_over created booked settled filled deposited is_ledger are_positions is_fill is_position position_after average_after remainder_after all_to sum_to
cash-limit = (refl, refl, refl, refl)
