-- Laws of the ledger: what being one gives.
use Prim.Native.Nat.{ℕ, ◌≤◌, ◌<◌}
use mathlib.Core.Path.{◌≡◌}
use mathlib.Core.Bool.{true, and-eq-true_iff}
use borrow.Author.Tests.{leb-true}
use lib.IntN.{nat_abs}
use Rattle.holding.specs.Inner.Sizes.{PositionIn}
use Rattle.holding.specs.Rows.{are_positions}
use Rattle.position.specs.Ledger.{position_at, is_ledger, is_money}
use Rattle.position.specs.declared.PositionLedger.{PositionLedger}
use Rattle.holding.proofs.Places.{RowsIn, rows_in_lem}
use Rattle.holding.proofs.Places as rows

-- what a ledger has
pub record LedgerIn (l : PositionLedger) : Type 0 where
  pub cash_in : nat_abs l.cash.value ≤ 4000000000000000000
  pub commission_in : nat_abs l.commission.value ≤ 4000000000000000000
  pub paid : is_money l.commission.value ≡ true
  pub positions : are_positions l.quantities l.averages l.realized ≡ true
  pub rows : RowsIn l.quantities l.averages l.realized

pub a_ledger : (l : PositionLedger) → is_ledger l ≡ true → LedgerIn l
unfolding is_ledger
a_ledger l h =
    let a = (and-eq-true_iff (is_money l.cash.value) _).0 h in
    let b = (and-eq-true_iff (is_money l.commission.value) _).0 a.1 in
    record {
      cash_in = leb-true _ _ a.0;
      commission_in = leb-true _ _ b.0;
      paid = b.0;
      positions = b.1;
      rows = rows_in_lem l.quantities l.averages l.realized b.1;
    }

pub held_in_lem : (l : PositionLedger) → is_ledger l ≡ true → (i : ℕ) → i < 32 → PositionIn (position_at l i)
held_in_lem l h = rows.held_in_lem l.quantities l.averages l.realized (a_ledger l h).positions
