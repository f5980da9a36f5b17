-- `put_day` meets its contract: behind the fills taken and the refusal there is room for the ledger.
use Rattle.decimals.proofs.Puts.{then}
use Rattle.day_printing.specs.Booked.{day_text}
use Rattle.day_printing.proofs.put_day.Goals as goal

pub returns : goal.returns
unfolding day_text
returns c = then _ _ _ _ _ _ _ _ c.put_line-second.ensures (then _ _ _ _ _ _ _ _ c.put_refused-third.ensures c.put_ledger.ensures)
