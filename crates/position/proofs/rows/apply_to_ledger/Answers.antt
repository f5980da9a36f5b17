-- `rows::apply_to_ledger`: the test of the fill is passed.
use mathlib.Core.Path.{sym, ◌∙◌}
use Rattle.holding.proofs.Holdings.{fill_in}
use Rattle.position.proofs.rows.apply_to_ledger.Goals as goal

pub settle-requires : goal.settle-requires
settle-requires c = (c.requires, fill_in _ (sym c.is_fill.ensures ∙ c.if-not-is_fill.false))
