-- `plan::run_between` meets its contract: the run begins where the first price stands or belongs, and ends with the places that the last reaches.
use Prim.Native.Nat.{◌≤◌}
use native.Mathlib.Omega.{arith}
use native.Mathlib.Nat.{le_trans}
use Rattle.levels.proofs.Found.{reached_few}
use Rattle.listings.proofs.Ranges.{ends-apart}
use Rattle.listings.proofs.plan.run_between.Goals as goal
use Rattle.listings.proofs.plan.run_between.Goals.{After-reached-end}

-- no fewer places are reached by the last price than are ahead of the first
apart : (c : After-reached-end) → c.ahead-from.result ≤ c.reached-end.result
apart c =
    let a = c in
    let s = c in
    rw (c.reached-end.ensures, c.find-2.ensures, a.ahead-from.ensures, a.find.ensures) (ends-apart _ _ _ _ s.requires.0.order s.requires.1)

pub reached-end-requires : goal.reached-end-requires
reached-end-requires c = rw c.find-2.ensures (le_trans (reached_few _ _ _ _) c.requires.0.known.few)

pub overflow_sub-result : goal.overflow_sub-result
overflow_sub-result c = omega (arith, apart c)
