-- `walks::reach` meets its contract: the answer is the one for what is left of the levels and of the target, from the last price passed.
use mathlib.Core.Path.{◌≡◌}
use Rattle.levels.specs.Table.{levels, rows}
use Rattle.walks.specs.Walk.{reach_from}
use Rattle.walks.proofs.Turns.{rest}
use Rattle.walks.proofs.reach.Given as goal

abbrev pub invariant-loop-i : goal.invariant-loop-i
invariant-loop-i l = reach_from 0 l.target (levels (rows l.lent.prices.now l.lent.quantities.now l.lent.count)) ≡ reach_from l.last l.left (rest l.lent.prices.now l.lent.quantities.now l.lent.count l.i)
