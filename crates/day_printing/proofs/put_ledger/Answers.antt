-- `put_ledger` meets its contract: the two totals are short, and behind them there is room for the positions.
use Rattle.decimals.proofs.Puts.{then}
use Rattle.day_printing.specs.Booked.{ledger_text}
use Rattle.day_printing.proofs.put_ledger.Goals as goal

pub returns : goal.returns
unfolding ledger_text
returns c = then _ _ _ _ _ _ _ _ c.put_total-second.ensures (then _ _ _ _ _ _ _ _ c.put_total-third.ensures c.put_positions.ensures)
