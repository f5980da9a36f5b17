-- `Amount::negated`: 0 less a number is its negation, which fits where the number's size does.
use borrow.Author.Rules.{rules}
use lib.IntN.{+ℤ_idl}
use Rattle.amount.proofs.Integers.{negated_size}
use Rattle.amount.proofs.Machine.{fits}
use Rattle.amount.proofs.Amount.negated.Goals as goal

pub overflow_sub-result : goal.overflow_sub-result
overflow_sub-result c = search (rules, fits, negated_size, +ℤ_idl)

pub returns : goal.returns
returns c = search (rules, fits, negated_size, +ℤ_idl)
