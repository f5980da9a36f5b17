-- What a ledger is, and what fills and deposits make of it.
use Rattle.std.specs.Prelude.{ℕ, Bool, not, false, ◌&&◌, cond, List, [], ◌∷◌, set, replicate, ℤ, pos, ◌+ℤ◌, ◌-ℤ◌}
use Rattle.std.specs.Int.Signed.{lt_z}
use Rattle.amount.specs.Whole.{amount}
use Rattle.types.specs.Limits.{sized_within, symbols, max_deposit, max_position, max_money}
use Rattle.types.specs.Replies.{Reply, done, refused}
use Rattle.types.specs.Answers.{reply_of}
use Rattle.types.specs.declared.Side.{Side}
use Rattle.types.specs.declared.Side.TheVariants.{Bid, Ask}
use Rattle.holding.specs.Holding.{is_fill, charge, position_after}
use Rattle.holding.specs.Rows.{position_of, are_positions}
use Rattle.holding.specs.declared.Position.{Position}
use Rattle.holding.specs.declared.Fill.{Fill}
use Rattle.position.specs.declared.PositionLedger.{PositionLedger}
use Rattle.position.specs.declared.Booked.{Booked}

-- the position of a symbol
abbrev pub position_at : PositionLedger → ℕ → Position
position_at l i = position_of l.quantities l.averages l.realized i

-- a money total within its limit
abbrev pub is_money : ℤ → Bool
is_money z = sized_within max_money z

-- the limits hold, of the totals and of each position
unfoldable pub is_ledger : PositionLedger → Bool
is_ledger l = is_money l.cash.value && (is_money l.commission.value && are_positions l.quantities l.averages l.realized)

-- a ledger and the reply beside it
pub record Change : Type 0 where
  pub ledger : PositionLedger
  pub reply : Reply (Unit {0})

-- what a call gave back
abbrev pub change_of : Booked → Change
change_of b = record { ledger = b.ledger; reply = reply_of b.outcome }

-- done, with this ledger
abbrev pub changed : PositionLedger → Change
changed l = record { ledger = l; reply = done tt }

-- refused: the very ledger that was handed in
abbrev pub kept : PositionLedger → ℕ → List ℤ → Change
kept l n vs = record { ledger = l; reply = refused n vs }

-- goes on if the test holds, else keeps the ledger and gives this refusal
abbrev pub provided : PositionLedger → Bool → ℕ → List ℤ → Change → Change
provided l t n vs next = cond t next (kept l n vs)

-- a new ledger is all 0 but for its cash
abbrev pub fresh : ℤ → PositionLedger
fresh cash = record {
  cash = amount cash;
  commission = amount (pos 0);
  quantities = replicate symbols (pos 0);
  averages = replicate symbols 0;
  realized = replicate symbols (pos 0);
}

-- `new`: cash outside its limit gives 2, and beside it the ledger of cash 0
unfoldable pub created : ℤ → Change
created cash = provided (fresh (pos 0)) (is_money cash) 2 [] (changed (fresh cash))

-- cash after a fill
abbrev pub cash_after : ℤ → Fill → ℤ
cash_after cash f = cash -ℤ charge f

-- a Bid may not leave cash below zero, an Ask may
abbrev pub is_short : Side → ℤ → Bool
is_short Bid cash = lt_z cash (pos 0)
is_short Ask cash = false

-- the ledger after a fill that makes p of its symbol's position
abbrev pub filled_with : PositionLedger → Fill → Position → PositionLedger
filled_with l f p = record {
  cash = amount (cash_after l.cash.value f);
  commission = amount (l.commission.value +ℤ f.commission.value);
  quantities = set l.quantities f.symbol p.quantity.value;
  averages = set l.averages f.symbol p.average;
  realized = set l.realized f.symbol p.realized.value;
}

-- the ledger after a fill
unfoldable pub filled : PositionLedger → Fill → PositionLedger
filled l f = filled_with l f (position_after (position_at l f.symbol) f)

-- the totals that a fill moves are within their limits
abbrev pub is_bearable : ℤ → ℤ → Position → Bool
is_bearable cash commission p = is_money cash && (is_money commission && (sized_within max_position p.quantity.value && is_money p.realized.value))

-- and so they are, after a fill to a ledger
abbrev pub bears_fill : PositionLedger → Fill → Bool
bears_fill l f =
    is_bearable (cash_after l.cash.value f) (l.commission.value +ℤ f.commission.value) (position_after (position_at l f.symbol) f)

-- a fill within its limits to a ledger: 8 with need and have, then 9
unfoldable pub settled : PositionLedger → Fill → Change
settled l f =
    provided l (not (is_short f.side (cash_after l.cash.value f))) 8 (charge f ∷ l.cash.value ∷ [])
    (provided l (bears_fill l f) 9 []
    (changed (filled l f)))

-- `apply_fill`: 1, 2, 8, 9, else the ledger after the fill
unfoldable pub booked : PositionLedger → Fill → Change
booked l f = provided l (is_ledger l) 1 [] (provided l (is_fill f) 2 [] (settled l f))

-- the ledger after fills, one after another; a refused one changes nothing
unfoldable pub booked_all : PositionLedger → List Fill → PositionLedger
booked_all l [] = l
booked_all l (f ∷ fs) = booked_all (booked l f).ledger fs

-- the ledger with another cash
abbrev pub with_cash : PositionLedger → ℤ → PositionLedger
with_cash l cash = record {
  cash = amount cash;
  commission = l.commission;
  quantities = l.quantities;
  averages = l.averages;
  realized = l.realized;
}

-- `deposit`: 1, 2, 9, else the ledger with so much more cash
unfoldable pub deposited : PositionLedger → ℤ → Change
deposited l d =
    provided l (is_ledger l) 1 []
    (provided l (sized_within max_deposit d) 2 []
    (provided l (is_money (l.cash.value +ℤ d)) 9 []
    (changed (with_cash l (l.cash.value +ℤ d)))))
