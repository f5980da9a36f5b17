-- `search::count_run` meets its contract. The loop's invariant: what was counted, and what the definition counts from here on, make the whole.
use Prim.Native.Nat.{◌+◌, ◌≤◌}
use mathlib.Core.Path.{◌≡◌}
use lib.ListN.{take, drop}
use Rattle.levels.specs.Order.{count_ahead}
use Rattle.levels.proofs.search.count_run.Given as goal

abbrev pub invariant-loop-i : goal.invariant-loop-i
invariant-loop-i l = (l.count ≤ l.i) × (count_ahead l.side l.price (drop l.from (take l.to l.prices)) ≡ l.count + count_ahead l.side l.price (drop l.i (take l.to l.prices)))
