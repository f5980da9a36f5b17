-- Nothing leaks from the account: what must balance over a whole history of fills and deposits, for the treasurer. In few words: cash, plus the
-- positions at their averages, minus the realized profits, is the opening cash plus the deposits, but for what divisions left over.
-- It is stated of what the calls are proved to give and of nothing beside it: `created` is what `new` answers, `booked` what apply_fill does,
-- `deposited` what deposit does, `day_booked` what apply_fills does. `nat_abs` is a number's size, `sum_to f n` adds up f at each number below n, and
-- `if_done r x y` is x where the answer r is 0, and y where it is a refusal. Proved in proofs/Balance.antt, the last two in proofs/Remainders.antt.
-- Commission does not appear: cash falls by it, and realized profit falls by it, and the account is the one less the other.
use Rattle.std.specs.Prelude.{ℕ, ◌+◌, ◌<◌, ◌≡◌, true, cond, List, [], ◌∷◌, ◌++◌, map, eqb, take, ℤ, pos, nat_abs, ◌+ℤ◌, ◌-ℤ◌, ◌*ℤ◌}
use Rattle.amount.specs.Sums.{sum_to}
use Rattle.types.specs.Limits.{symbols}
use Rattle.types.specs.Runs.{if_done}
use Rattle.types.specs.declared.Side.{Side}
use Rattle.types.specs.declared.Side.TheVariants.{Bid, Ask}
use Rattle.holding.specs.Holding.{grows, remainder_after, position_after}
use Rattle.holding.specs.declared.Position.{Position}
use Rattle.holding.specs.declared.Fill.{Fill}
use Rattle.position.specs.Ledger.{position_at, is_money, Change, created, booked, deposited}
use Rattle.position.specs.declared.PositionLedger.{PositionLedger}
use Rattle.day.specs.Day.{day_booked}

-- ── a history ──

-- what is offered to a ledger: a fill, or a deposit, which takes money out where it is below 0
pub data Event : Type 0 where
  fill : Fill → Event
  deposit : ℤ → Event

-- what comes of it: the ledger that is left, and the answer
abbrev pub offered : PositionLedger → Event → Change
offered l (fill f) = booked l f
offered l (deposit d) = deposited l d

-- the ledger after a history: each is offered to what those before it left; a refused one leaves that as it is, and the others follow
unfoldable pub offered_all : PositionLedger → List Event → PositionLedger
offered_all l [] = l
offered_all l (e ∷ es) = offered_all (offered l e).ledger es

-- the ledger that `new` opens with this cash
abbrev pub opened : ℤ → PositionLedger
opened cash = (created cash).ledger

-- ── what stands in the ledger ──

-- a position's signed quantity times its average
abbrev pub at_average : Position → ℤ
at_average p = p.quantity.value *ℤ pos p.average

-- that of each position, added up
abbrev pub held_at_average : PositionLedger → ℤ
held_at_average l = sum_to (λ (i : ℕ). at_average (position_at l i)) symbols

-- the realized profits, added up
abbrev pub realized_profits : PositionLedger → ℤ
realized_profits l = sum_to (λ (i : ℕ). (position_at l i).realized.value) symbols

-- the account: cash, plus each position's signed quantity times its average, minus the realized profits
abbrev pub account : PositionLedger → ℤ
account l = (l.cash.value +ℤ held_at_average l) -ℤ realized_profits l

-- ── what is read from a history that begins at a ledger; none of it stands in the ledger ──

-- what an event brings in: a deposit itself, and a fill nothing
abbrev pub deposit_of : Event → ℤ
deposit_of (fill f) = pos 0
deposit_of (deposit d) = d

-- the accepted deposits, added up
unfoldable pub deposits : PositionLedger → List Event → ℤ
deposits l [] = pos 0
deposits l (e ∷ es) = if_done (offered l e).reply (deposit_of e) (pos 0) +ℤ deposits (offered l e).ledger es

-- an increase: of a long position by a Bid, of a short one by an Ask; what (average·|old| + price·|fill|) / |new| leaves over; and |new|
pub record Increase : Type 0 where
  pub side : Side
  pub remainder : ℕ
  pub size : ℕ

-- a fill to a position, as an increase if it is one: the first fill of a flat position is one, a close or a turnover is none
abbrev pub increase_by : Fill → Position → List Increase
increase_by f p =
    cond (grows f.side p.quantity.value) (
    record {
      side = f.side;
      remainder = remainder_after true (nat_abs p.quantity.value) p.average f.quantity f.price;
      size = nat_abs (position_after p f).quantity.value;
    } ∷ []
    ) []

-- an event as an increase, by the position that its fill meets; a deposit is none
abbrev pub increase_of : PositionLedger → Event → List Increase
increase_of l (fill f) = increase_by f (position_at l f.symbol)
increase_of l (deposit d) = []

-- the accepted increases, in order
unfoldable pub increases : PositionLedger → List Event → List Increase
increases l [] = []
increases l (e ∷ es) = if_done (offered l e).reply (increase_of l e) [] ++ increases (offered l e).ledger es

-- what is counted of each increase, added up
unfoldable pub sum_over : (Increase → ℕ) → List Increase → ℕ
sum_over counted [] = 0
sum_over counted (i ∷ is) = counted i + sum_over counted is

-- what a remainder counts for among those of long positions
abbrev pub among_long : Side → ℕ → ℕ
among_long Bid n = n
among_long Ask n = 0

-- and among those of short ones
abbrev pub among_short : Side → ℕ → ℕ
among_short Bid n = 0
among_short Ask n = n

-- the remainders of increases of long positions, added up
abbrev pub long_remainders : List Increase → ℕ
long_remainders is = sum_over (λ (i : Increase). among_long i.side i.remainder) is

-- those of short ones, added up
abbrev pub short_remainders : List Increase → ℕ
short_remainders is = sum_over (λ (i : Increase). among_short i.side i.remainder) is

-- the increases that leave a remainder
unfoldable pub with_remainder : List Increase → List Increase
with_remainder [] = []
with_remainder (i ∷ is) = cond (eqb i.remainder 0) (with_remainder is) (i ∷ with_remainder is)

-- ── what must balance ──

-- The account after a history is what there was at its start, plus the accepted deposits, minus the remainders of accepted increases of long
-- positions, plus those of short ones. (An average is rounded down: a long position then stands at less than it cost, a short one at less than
-- it fetched.)
abbrev pub Balances : ℤ → PositionLedger → List Event → Type 0
Balances start l es =
    let is = increases l es in
    account (offered_all l es) ≡ ((start +ℤ deposits l es) -ℤ pos (long_remainders is)) +ℤ pos (short_remainders is)

-- the gap: how far the account is from that without the remainders
abbrev pub gap : ℤ → PositionLedger → List Event → ℕ
gap start l es = nat_abs (account (offered_all l es) -ℤ (start +ℤ deposits l es))

-- n is 0 where there are none of these increases, else below the sum of |new quantity| over them
abbrev pub Bounds : List Increase → ℕ → Type 0
Bounds [] n = n ≡ 0
Bounds (i ∷ is) n = n < sum_over (λ (j : Increase). j.size) (i ∷ is)

-- Open a ledger with any cash within its limit and offer it any history: it balances, from the opening cash on.
abbrev pub NothingLeaks : Type 0
NothingLeaks = (cash : ℤ) (es : List Event) → is_money cash ≡ true → Balances cash (opened cash) es

-- The gap is 0 where no accepted increase leaves a remainder, else below the sum of |new quantity| over those that leave one.
abbrev pub GapBounded : Type 0
GapBounded = (cash : ℤ) (es : List Event) → is_money cash ≡ true → Bounds (with_remainder (increases (opened cash) es)) (gap cash (opened cash) es)

-- Both from any ledger on, and so from one evening to the next: what there was at the start is then that ledger's account. A record that is no
-- ledger refuses everything, and they hold of it too.
abbrev pub FromAnyLedger : Type 0
FromAnyLedger = (l : PositionLedger) (es : List Event) → Balances (account l) l es × Bounds (with_remainder (increases l es)) (gap (account l) l es)

-- A day's fills in one call are no other way in: the call leaves what those fills that it took leave, each offered by itself.
abbrev pub DayAsHistory : Type 0
DayAsHistory = (l : PositionLedger) (fs : List Fill) → let day = day_booked l fs in day.stands ≡ offered_all l (map fill (take day.taken fs))

-- The first fill of a flat position counts as an increase here, and so does a fill of quantity 0 on the position's own side; one of quantity 0
-- against the position counts as none. Whether it counts or not, such a fill leaves no remainder.
abbrev pub NoRemainder : Type 0
NoRemainder =
    (f : Fill) (p : Position) → (p.quantity.value ≡ pos 0 → with_remainder (increase_by f p) ≡ []) × (f.quantity ≡ 0 → with_remainder (increase_by f p) ≡ [])

-- So it makes no difference: without the increases that leave none, every sum above is the same.
abbrev pub NoDifference : Type 0
NoDifference =
    (is : List Increase) →
    (long_remainders (with_remainder is) ≡ long_remainders is) × (short_remainders (with_remainder is) ≡ short_remainders is)
    × (with_remainder (with_remainder is) ≡ with_remainder is)
