-- `formed::count_steps` meets its contract. The loop's invariant: what was counted, and what the definition counts from here on, make the whole.
use Prim.Native.Nat.{◌+◌, ◌≤◌}
use mathlib.Core.Path.{◌≡◌}
use mathlib.Core.List.{map}
use lib.ListN.{take, drop}
use Rattle.levels.specs.Order.{steps}
use Rattle.levels.proofs.Turned.{turned}
use Rattle.levels.proofs.formed.count_steps.Given as goal

abbrev pub invariant-loop-i : goal.invariant-loop-i
invariant-loop-i l = (l.count ≤ l.i) × (steps l.side (take l.n (map turned l.prices)) ≡ l.count + steps l.side (drop l.i (take l.n (map turned l.prices))))
