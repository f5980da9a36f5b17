-- `put_values` meets its contract: each value is put behind the one before it.
use Rattle.decimals.proofs.Puts.{then}
use Rattle.day_printing.specs.Booked.{values_text}
use Rattle.day_printing.proofs.refusals.put_values.Goals as goal

pub returns : goal.returns
unfolding values_text
returns c =
    then _ _ _ _ _ _ _ _ c.put_carried-second.ensures
    (then _ _ _ _ _ _ _ _ c.put_carried-third.ensures (then _ _ _ _ _ _ _ _ c.put_carried-fourth.ensures c.put_carried.ensures))
