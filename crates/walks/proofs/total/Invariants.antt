-- `walks::total` meets its contract: the sum so far and the sum of what is left are the whole, and each place adds less than 2^32.
use Prim.Native.Nat.{◌+◌, ◌*◌, ◌≤◌}
use mathlib.Core.Path.{◌≡◌}
use lib.ListN.{take, drop}
use Rattle.walks.specs.Walk.{sum_of}
use Rattle.walks.proofs.total.Given as goal

abbrev pub invariant-loop-quantity : goal.invariant-loop-quantity
invariant-loop-quantity l = (l.sum ≤ 4294967295 * l.quantity-index) × (l.sum + sum_of (drop l.quantity-index (take l.n l.quantities)) ≡ sum_of (take l.n l.quantities))
