-- `plan::range_runs` meets its contract: the run from the end that comes first on the side to the other is what is neither below nor above.
use native.Mathlib.Omega.{arith}
use native.Mathlib.Nat.{le_trans}
use mathlib.Core.Path.{◌≡◌}
use mathlib.Core.Bool.{true, false}
use lib.Dec.{ltb}
use borrow.Author.Tests.{le-ltb}
use Rattle.types.proofs.Booleans.{passed}
use Rattle.listings.specs.Listed.{is_range}
use Rattle.listings.proofs.Ranges.{range_order, bids_found, asks_found, run-few}
use Rattle.listings.proofs.plan.range_runs.Goals as goal
use Rattle.listings.proofs.plan.range_runs.Goals.{Else-not-is_range}

range : (c : Else-not-is_range) → let a = c.args in is_range a.lo a.hi ≡ true
range c = passed c.is_range.ensures c.if-not-is_range.false-raw

apart : (c : Else-not-is_range) → let a = c.args in ltb a.hi a.lo ≡ false
apart c = let a = c.args in le-ltb a.hi a.lo (range_order a.lo a.hi (range c))

pub taking-requires : goal.taking-requires
taking-requires c = (rw c.run_between.ensures (le_trans (run-few _ _ _ _ _) c.requires.known.few), omega arith)

pub taking-requires-in-Ask : goal.taking-requires-in-Ask
taking-requires-in-Ask c = (omega arith, rw c.run_between-in-Ask.ensures (le_trans (run-few _ _ _ _ _) c.requires.known.few))

pub returns-in-Bid : goal.returns-in-Bid
returns-in-Bid c = let m = c in
    let e = c in
    rw (c.taking.ensures, c.run_between.ensures) (bids_found _ _ _ _ e.requires.order (range c.before.before.before) m.in-Bid.is)

pub returns-in-Ask : goal.returns-in-Ask
returns-in-Ask c = let m = c in
    let e = c in
    rw (c.taking-in-Ask.ensures, c.run_between-in-Ask.ensures) (asks_found _ _ _ _ e.requires.order (range c.before.before.before) m.in-Ask.is)
