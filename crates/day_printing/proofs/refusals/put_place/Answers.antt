-- `put_place` meets its contract: each piece is put behind the one before it.
use Rattle.decimals.proofs.Puts.{then}
use Rattle.day_printing.specs.Booked.{place_text}
use Rattle.day_printing.proofs.refusals.put_place.Goals as goal

pub returns : goal.returns
unfolding place_text
returns c =
    then _ _ _ _ _ _ _ _ c.put-first.ensures
    (then _ _ _ _ _ _ _ _ c.put_value-word.ensures (then _ _ _ _ _ _ _ _ c.put-second.ensures c.put_value.ensures))
