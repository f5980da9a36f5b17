-- `put_position` meets its contract: each piece is put behind the one before it.
use Rattle.decimals.proofs.Puts.{then}
use Rattle.day_printing.specs.Booked.{position_text}
use Rattle.day_printing.proofs.put_position.Goals as goal

pub returns : goal.returns
unfolding position_text
returns c =
    then _ _ _ _ _ _ _ _ c.put_number-quantity.ensures
    (then _ _ _ _ _ _ _ _ c.put_amount-average.ensures
    (then _ _ _ _ _ _ _ _ c.put_value-realized.ensures
    (then _ _ _ _ _ _ _ _ c.put_amount-feed.ensures c.put_byte.ensures)))
