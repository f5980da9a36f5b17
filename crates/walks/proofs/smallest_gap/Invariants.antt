-- `walks::smallest_gap` meets its contract: the answer is the smallest of the least so far and of the gaps that are left.
use Prim.Native.Nat.{◌-◌}
use mathlib.Core.Path.{◌≡◌}
use lib.ListN.{take, drop}
use Rattle.walks.specs.Walk.{gaps_of, least_from}
use Rattle.walks.proofs.smallest_gap.Given as goal

abbrev pub invariant-loop-i : goal.invariant-loop-i
invariant-loop-i l = least_from l.most (gaps_of (take l.n l.prices)) ≡ least_from l.least (gaps_of (drop (l.i - 1) (take l.n l.prices)))
