-- `put_head` meets its contract: the word, the number and the line feed, one behind the other.
use Rattle.decimals.proofs.Puts.{then}
use Rattle.printing.specs.Printed.{head_text}
use Rattle.printing.proofs.ends.put_head.Goals as goal

pub returns : goal.returns
unfolding head_text
returns c = then _ _ _ _ _ _ _ _ c.put-number.ensures (then _ _ _ _ _ _ _ _ c.put_number-feed.ensures c.put_byte.ensures)
