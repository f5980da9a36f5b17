-- `put_sides` meets its contract: the bids, and the asks behind them.
use Rattle.decimals.proofs.Puts.{then}
use Rattle.printing.specs.Printed.{sides_text}
use Rattle.printing.proofs.ends.put_sides.Goals as goal

pub returns : goal.returns
unfolding sides_text
returns c = then _ _ _ _ _ _ _ _ c.put_levels-next.ensures c.put_levels.ensures
