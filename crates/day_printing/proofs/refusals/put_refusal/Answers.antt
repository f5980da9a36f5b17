-- `put_refusal` meets its contract: number and line, the values, the line feed.
use Rattle.decimals.proofs.Puts.{then}
use Rattle.day_printing.specs.Booked.{refusal_text}
use Rattle.day_printing.proofs.refusals.put_refusal.Goals as goal

pub returns : goal.returns
unfolding refusal_text
returns c = then _ _ _ _ _ _ _ _ c.put_place-values.ensures (then _ _ _ _ _ _ _ _ c.put_values-feed.ensures c.put_byte.ensures)
