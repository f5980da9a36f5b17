-- `put_line` meets its contract: the word, the number, the line feed.
use Rattle.decimals.proofs.Puts.{then}
use Rattle.day_printing.specs.Booked.{line_text}
use Rattle.day_printing.proofs.numbers.put_line.Goals as goal

pub returns : goal.returns
unfolding line_text
returns c = then _ _ _ _ _ _ _ _ c.put-value.ensures (then _ _ _ _ _ _ _ _ c.put_value-feed.ensures c.put_byte.ensures)
