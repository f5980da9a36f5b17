-- What a ledger is worth, by numbers.
use Prim.Native.Nat.{ℕ, ◌≤◌}
use mathlib.Core.Path.{◌≡◌}
use mathlib.Core.List.{List}
use lib.ListN.{get_or-eq_default}
use Rattle.told.specs.Numbers.{tell, nothing}
use Rattle.position.specs.declared.PositionLedger.{PositionLedger}
use Rattle.exports.specs.Ledgers as L

-- worths end at 3
pub worth_unnamed : (l : PositionLedger) (n : ℕ) (prices : List ℕ) → 4 ≤ n → L.worth_by l n prices ≡ tell nothing (L.unnamed l)
unfolding L.worth_by
worth_unnamed l n prices h = get_or-eq_default (L.worths l prices) (tell nothing (L.unnamed l)) {n = n} h
