-- `put_levels` meets its contract. The loop's invariant: the text of the levels that are left is owed.
use lib.ListN.{drop}
use Rattle.levels.specs.Table.{levels, rows}
use Rattle.decimals.proofs.Puts.{Owed}
use Rattle.printing.specs.Printed.{side_text}
use Rattle.printing.proofs.ends.put_levels.Given as goal

abbrev pub invariant-loop-i : goal.invariant-loop-i
invariant-loop-i l =
    let side = levels (rows l.fn.side.prices.now l.fn.side.quantities.now l.i-end) in
    Owed (side_text l.word side) l.at l.initial.out (side_text l.word (drop l.i side)) l.next l.out
