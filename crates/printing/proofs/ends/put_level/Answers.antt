-- `put_level` meets its contract: the word, and the pair behind it.
use Rattle.decimals.proofs.Puts.{then}
use Rattle.printing.proofs.ends.put_level.Goals as goal

pub returns : goal.returns
returns c = then _ _ _ _ _ _ _ _ c.put-next.ensures c.put_pair.ensures
