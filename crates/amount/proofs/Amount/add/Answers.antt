-- `Amount::add`: the sum fits, since the two sizes together do.
use borrow.Author.Rules.{rules}
use Rattle.amount.proofs.Machine.{add_fits}
use Rattle.amount.proofs.Amount.add.Goals as goal

pub overflow_add-result : goal.overflow_add-result
overflow_add-result c = search (rules, add_fits)

pub returns : goal.returns
returns c = search (rules, add_fits)
