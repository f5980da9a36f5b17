-- `Amount::difference`: the sizes of two numbers without a sign are the numbers.
use native.Mathlib.Omega.{arith}
use Rattle.amount.proofs.Amount.difference.Goals as goal

pub sub-requires : goal.sub-requires
sub-requires c = rw (c.of.ensures, c.of-2.ensures) (omega arith)

pub returns : goal.returns
returns c = rw (c.sub.ensures, c.of.ensures, c.of-2.ensures)
