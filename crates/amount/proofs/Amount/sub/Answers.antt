-- `Amount::sub`: the difference fits, since the two sizes together do.
use borrow.Author.Rules.{rules}
use Rattle.amount.proofs.Integers.{negated_size}
use Rattle.amount.proofs.Machine.{add_fits}
use Rattle.amount.proofs.Amount.sub.Goals as goal

pub overflow_sub-result : goal.overflow_sub-result
overflow_sub-result c = search (rules, add_fits, negated_size)

pub returns : goal.returns
returns c = search (rules, add_fits, negated_size)
