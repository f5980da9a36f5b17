-- `Ordered::count_by_run` meets its contract: fewer than 16 prices are all counted; of others, those before the run in which those ahead end are ahead,
-- and the run's are counted.
use Prim.Native.Nat.{◌≤◌}
use native.Mathlib.Omega.{arith}
use native.Mathlib.Nat.{zero-add}
use lib.ListN.{length}
use Rattle.levels.proofs.Counts.{run_counts}
use Rattle.levels.proofs.ordered.Ordered.count_by_run.Goals as goal
use Rattle.levels.proofs.ordered.Ordered.count_by_run.Goals.{then-n-ge16, else-n-ge16}

pub returns : goal.returns
returns c =
    let a = c.args in
    let sized : a.self.count ≤ length a.self.prices.now = omega (arith, a.self.long, a.self.few) in
    elim c.if-n-ge16.branch [
      | then-n-ge16 w ↦
          let e = w.run_start-from.ensures in
          rw (c.count_run.ensures, w.from-is, w.to-is) (run_counts a.self.side a.price a.self.prices.now a.self.count sized a.self.order w.run_start-from.result 16 e.0 e.1)
      | else-n-ge16 w ↦ rw (c.count_run.ensures, w.from-is, w.to-is, zero-add)
    ]
