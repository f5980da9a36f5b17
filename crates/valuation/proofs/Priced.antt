-- Laws of the tests before every valuation.
use Prim.Native.Nat.{ℕ, ◌≤◌}
use mathlib.Core.Path.{◌≡◌, refl, sym}
use mathlib.Core.Bool.{Bool, true, false}
use mathlib.Core.List.{List}
use native.Mathlib.Nat.{le_refl}
use lib.IntN.{nat_abs}
use Rattle.types.specs.Replies.{Reply, done, if_record, if_within}
use Rattle.holding.specs.Rows.{are_positions}
use Rattle.pricing.specs.Prices.{are_prices, total}
use Rattle.pricing.specs.declared.Measure.{Measure}
use Rattle.pricing.proofs.Totals.{total_size}
use Rattle.position.specs.Ledger.{position_at, is_ledger}
use Rattle.position.specs.declared.PositionLedger.{PositionLedger}
use Rattle.position.proofs.Ledgers.{LedgerIn, a_ledger, held_in_lem}
use Rattle.valuation.specs.Values.{all_priced}

-- past the tests of 1 and 2: what sums over the positions ask, and how large they are
pub record Priced (l : PositionLedger) (ps : List ℕ) : Type 0 where
  pub ledger : LedgerIn l
  pub sums : (are_positions l.quantities l.averages l.realized ≡ true) × (are_prices ps ≡ true)
  pub size : (m : Measure) → nat_abs (total m (position_at l) ps) ≤ 3200000000000000000

pub tested : (l : PositionLedger) (ps : List ℕ) → is_ledger l ≡ true → are_prices ps ≡ true → Priced l ps
tested l ps h hp =
    let k = a_ledger l h in
    record { ledger = k; sums = (k.positions, hp); size = λ m. total_size m (position_at l) ps (held_in_lem l h) hp 32 (le_refl 32) }

-- and past that of 13
pub priced_in : (l : PositionLedger) (ps : List ℕ) → done tt ≡ all_priced l ps → Priced l ps
unfolding all_priced
priced_in l ps e = by (is_ledger l) (are_prices ps) refl refl _ (sym e)
  where
    by : (a b : Bool) → is_ledger l ≡ a → are_prices ps ≡ b → (x : Reply (Unit {0})) → if_record a (if_within b x) ≡ done tt → Priced l ps
    by true true h hp x e = tested l ps h hp
    by true false h hp x e = cc
    by false b h hp x e = cc
