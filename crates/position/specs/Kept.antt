-- What every change of a ledger keeps: a taken one leaves a ledger again, and a refused one gives back the very ledger that it was handed.
-- Proved in proofs/Kept.antt.
use Rattle.std.specs.Prelude.{ℕ, ◌<◌, ◌≡◌, true, not, List, eqb, ℤ, nat_abs}
use Rattle.types.specs.Limits.{is_price, symbols}
use Rattle.types.specs.Replies.{done, refused}
use Rattle.holding.specs.declared.Fill.{Fill}
use Rattle.position.specs.declared.PositionLedger.{PositionLedger}
use Rattle.position.specs.Ledger.{Change, position_at, is_ledger, created, booked, deposited}

-- a change of l
pub record Keeps (l : PositionLedger) (c : Change) : Type 0 where
  pub ledger : c.reply ≡ done tt → is_ledger c.ledger ≡ true
  pub same : (n : ℕ) (vs : List ℤ) → c.reply ≡ refused n vs → c.ledger ≡ l

-- apply_fill
abbrev pub FillKeeps : Type 0
FillKeeps = (l : PositionLedger) (f : Fill) → Keeps l (booked l f)

-- deposit
abbrev pub DepositKeeps : Type 0
DepositKeeps = (l : PositionLedger) (d : ℤ) → Keeps l (deposited l d)

-- new gives a ledger, beside a refusal too
abbrev pub NewIsLedger : Type 0
NewIsLedger = (cash : ℤ) → is_ledger (created cash).ledger ≡ true

-- in any ledger an average is within the prices' limits exactly where the quantity is not 0
abbrev pub AveragesFit : Type 0
AveragesFit =
    (l : PositionLedger) → is_ledger l ≡ true → (i : ℕ) → i < symbols → is_price (position_at l i).average ≡ not (eqb (nat_abs (position_at l i).quantity.value) 0)
