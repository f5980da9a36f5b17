-- `put_positions` meets its contract. The loop's invariant: the positions of the symbols below i are put.
use Rattle.holding.specs.Lent.{position_in}
use Rattle.decimals.specs.Decimals.{Puts}
use Rattle.day_printing.specs.Booked.{positions_text}
use Rattle.day_printing.proofs.put_positions.Given as goal

abbrev pub invariant-loop-i : goal.invariant-loop-i
invariant-loop-i l = Puts (positions_text (position_in l.positions) l.i) l.at l.initial.out l.out l.next
