-- `Amount::raised`: a number below 0 has a successor that fits.
use borrow.Author.Rules.{rules}
use lib.IntN.{+ℤ_one}
use Rattle.amount.proofs.Machine.{raised_fits}
use Rattle.amount.proofs.Amount.raised.Goals as goal

pub overflow_add-result : goal.overflow_add-result
overflow_add-result c = search (rules, raised_fits, +ℤ_one)

pub returns : goal.returns
returns c = search (rules, raised_fits, +ℤ_one)
