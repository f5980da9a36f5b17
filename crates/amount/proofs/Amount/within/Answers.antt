-- `Amount::within`: the size is what `size` says.
use Rattle.amount.proofs.Amount.within.Goals as goal

pub returns : goal.returns
returns c = rw c.size.ensures
