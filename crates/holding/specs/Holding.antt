-- One position: its limits, and what a fill makes of it. Averages, remainders and closed lots are functions of natural numbers: whether
-- the fill increases the position, the lots held and their average, the fill's lots and its price. Signs come in after them.
use Rattle.std.specs.Prelude.{ℕ, ◌+◌, ◌*◌, ◌/◌, ◌%◌, min, Bool, not, cond, ◌&&◌, ltb, eqb, ℤ, pos, neg_ℤ, nat_abs, ◌+ℤ◌, ◌-ℤ◌, ◌*ℤ◌}
use Rattle.std.specs.Int.Signed.{lt_z}
use Rattle.amount.specs.Whole.{amount}
use Rattle.types.specs.Limits.{sized_within, symbols, max_commission, max_position, max_money, is_price, is_quantity}
use Rattle.types.specs.declared.Side.{Side}
use Rattle.types.specs.declared.Side.TheVariants.{Bid, Ask}
use Rattle.holding.specs.declared.Position.{Position}
use Rattle.holding.specs.declared.Fill.{Fill}

-- average is 0 exactly where the quantity is 0, and otherwise within the prices' limits
abbrev pub is_average : ℕ → ℕ → Bool
is_average size average = cond (eqb size 0) (eqb average 0) (is_price average)

-- a position within its limits
unfoldable pub is_position : Position → Bool
is_position p =
    sized_within max_position p.quantity.value && (sized_within max_money p.realized.value && is_average (nat_abs p.quantity.value) p.average)

-- a fill within its limits
unfoldable pub is_fill : Fill → Bool
is_fill f = ltb f.symbol symbols && (is_quantity f.quantity && (is_price f.price && sized_within max_commission f.commission.value))

-- a Bid counts up, an Ask down: of lots, and of what they cost
abbrev pub signed : Side → ℕ → ℤ
signed Bid n = pos n
signed Ask n = neg_ℤ (pos n)

-- an increase: the position is flat or on the fill's own side
abbrev pub grows : Side → ℤ → Bool
grows Bid q = not (lt_z q (pos 0))
grows Ask q = not (lt_z (pos 0) q)

-- an increase sets (average·|old| + price·|fill|) / |new|, rounded down; a partial close keeps, as quantity 0 does; flat is 0; a turnover takes the price
unfoldable pub average_after : Bool → ℕ → ℕ → ℕ → ℕ → ℕ
average_after grown old average n price =
    cond (eqb n 0) average
    (cond grown ((average * old + price * n) / (old + n))
    (cond (ltb n old) average
    (cond (eqb n old) 0 price)))

-- what an increase's division leaves over
unfoldable pub remainder_after : Bool → ℕ → ℕ → ℕ → ℕ → ℕ
remainder_after grown old average n price = cond (eqb n 0) 0 (cond grown ((average * old + price * n) % (old + n)) 0)

-- an increase closes no lots, another fill its own or all there are
abbrev pub closed_lots : Bool → ℕ → ℕ → ℕ
closed_lots grown old n = cond grown 0 (min old n)

-- the price difference: an Ask closes lots that were bought at the average, a Bid lots that were sold at it
abbrev pub gain : Side → ℕ → ℕ → ℤ
gain Bid average price = pos average -ℤ pos price
gain Ask average price = pos price -ℤ pos average

-- what a fill takes from cash: a Bid pays its cost, an Ask is paid it, and each pays its commission
abbrev pub charge : Fill → ℤ
charge f = signed f.side (f.quantity * f.price) +ℤ f.commission.value

-- the position after a fill: realized profit is closed lots times the price difference, less commission
unfoldable pub position_after : Position → Fill → Position
position_after p f =
    let grown = grows f.side p.quantity.value in
    let old = nat_abs p.quantity.value in
    record {
      quantity = amount (p.quantity.value +ℤ signed f.side f.quantity);
      average = average_after grown old p.average f.quantity f.price;
      realized = amount ((p.realized.value +ℤ gain f.side p.average f.price *ℤ pos (closed_lots grown old f.quantity)) -ℤ f.commission.value);
    }
