-- `Amount::unsigned`: a number not below 0 is its size.
use borrow.Author.Rules.{rules}
use Rattle.amount.proofs.Machine.{size_fits}
use Rattle.amount.proofs.Amount.unsigned.Goals as goal

pub overflow_cast-result : goal.overflow_cast-result
overflow_cast-result c = search (rules, size_fits)
