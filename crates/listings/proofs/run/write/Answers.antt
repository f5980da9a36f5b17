-- `run::write` meets its contract: each turn stores the next level of the run, and after the last all of it stands woven at the front.
use Prim.Native.Nat.{◌<◌}
use native.Mathlib.Omega.{arith}
use mathlib.Core.Path.{◌≡◌}
use lib.ListN.{take}
use lib.Seq.{take_all}
use borrow.Author.Rules.{rules}
use Rattle.listings.specs.Listed.{woven}
use Rattle.listings.specs.Inner.Runs.{every_place, in_run}
use Rattle.listings.proofs.Runs.{placed-length, placed_at}
use Rattle.listings.proofs.Weaves.{weave_turn}
use Rattle.listings.proofs.run.write.Goals as goal

pub loop-i-init : goal.loop-i-init
unfolding woven
loop-i-init c = search rules

pub loop-i-preserved : goal.loop-i-preserved
loop-i-preserved c =
    let l = c.loop-i in
    let a = c.args in
    let s = c.requires in
    let k : l.i < a.run.count = omega arith in
    let r = c.place-at in
    let at = placed_at a.lent.prices.now a.lent.quantities.now a.lent.long_prices a.lent.long_quantities a.run s.0 l.i r.result k r.ensures.0 r.ensures.1 in
    weave_turn (in_run a.run (every_place a.lent.prices.now a.lent.quantities.now)) a.run.count l.i _ _ a.out.now l.out
    (placed-length a.lent.prices.now a.lent.quantities.now a.lent.long_prices a.lent.long_quantities a.run s.0) k s.1 at l.invariant

pub returns : goal.returns
returns c =
    let a = c.args in
    let n = a.run.count in
    let run = in_run a.run (every_place a.lent.prices.now a.lent.quantities.now) in
    let i : c.loop-i.i ≡ n = omega arith in
    let whole : take n run ≡ run = take_all n run (omega (arith, placed-length a.lent.prices.now a.lent.quantities.now a.lent.long_prices a.lent.long_quantities a.run c.requires.0)) in
    rw (i, whole) at c.loop-i.invariant
