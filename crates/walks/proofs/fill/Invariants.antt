-- `walks::fill` meets its contract: the cost so far and that of what is left are the whole, what was passed and what is left fill the
-- target, and each lot costs less than 2^32.
use Prim.Native.Nat.{◌+◌, ◌-◌, ◌*◌, ◌≤◌, ◌<◌}
use mathlib.Core.Path.{◌≡◌}
use Rattle.levels.specs.Table.{levels, rows}
use Rattle.walks.specs.Walk.{total_of, cost_of}
use Rattle.walks.proofs.Turns.{rest}
use Rattle.walks.proofs.fill.Given as goal

abbrev pub invariant-loop-i : goal.invariant-loop-i
invariant-loop-i l = (0 < l.left) × (l.left ≤ l.target) × (l.cost ≤ 4294967295 * (l.target - l.left)) ×
    (l.cost + cost_of l.left (rest l.lent.prices.now l.lent.quantities.now l.lent.count l.i) ≡ cost_of l.target (levels (rows l.lent.prices.now l.lent.quantities.now l.lent.count))) ×
    (total_of (levels (rows l.lent.prices.now l.lent.quantities.now l.lent.count)) + l.left ≡ l.target + total_of (rest l.lent.prices.now l.lent.quantities.now l.lent.count l.i))
