-- `rows::deposit`: cash and a deposit together fit.
use mathlib.Core.Path.{sym, ◌∙◌}
use native.Mathlib.Omega.{arith}
use borrow.Author.Tests.{leb-true}
use Rattle.position.proofs.Ledgers.{a_ledger}
use Rattle.position.proofs.rows.deposit.Goals as goal

pub add-balance-requires : goal.add-balance-requires
add-balance-requires c =
    omega (arith, a_ledger _ (sym c.is_ledger.ensures ∙ c.if-not-is_ledger.false), leb-true _ _ (sym c.within.ensures ∙ c.if-not-within.false))
