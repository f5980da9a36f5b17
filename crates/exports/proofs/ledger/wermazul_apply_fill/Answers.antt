-- `ledger::wermazul_apply_fill` meets its contract: the rows take the fill if its number names a side.
use mathlib.Core.Path.{ap, ◌∙◌}
use borrow.Author.Tests.{lt-leb, le-leb}
use mir.ValLaws.{to_z-of_z}
use Rattle.told.specs.Numbers.{tell, nothing}
use Rattle.position.specs.declared.PositionLedger.{PositionLedger}
use Rattle.exports.specs.Ledgers.{unnamed, ledger_told, booked_by}
use Rattle.exports.proofs.ledger.wermazul_apply_fill.Goals as goal

pub returns-then-side-gt1 : goal.returns-then-side-gt1
unfolding booked_by
returns-then-side-gt1 c =
    rw (c.unnamed.ensures ∙ ap (λ (l : PositionLedger). tell nothing (unnamed l)) c.of.ensures, lt-leb _ _ c.if-side-gt1.true)

pub returns : goal.returns
unfolding booked_by
returns c =
    rw c.given.ensures
    (ap ledger_told c.apply_fill-outcome.ensures ∙ rw (c.fill_of-fill.ensures, to_z-of_z _ _ c.ranges.commission, le-leb _ _ c.if-side-gt1.false))
