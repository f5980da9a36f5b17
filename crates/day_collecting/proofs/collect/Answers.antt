-- `collect` meets its contract: what one turn takes stands behind what was taken.
use Rattle.std.proofs.Common.{◌+◌, ◌*◌, ◌≡◌, true, arith, rules, tests}
use Rattle.day_keeping.specs.Inner.Keeping.{is_going}
use Rattle.day_collecting.proofs.Texts.{took_then}
use Rattle.day_collecting.proofs.collect.Goals as goal

pub loop-turn-preserved : goal.loop-turn-preserved
loop-turn-preserved g c =
    let l = c.loop-turn in
    let more : is_going l.day.reading ≡ true = search (rules, tests) in
    let most : (l._turn + 1) * 65536 ≡ l._turn * 65536 + 65536 = omega arith in
    (c.take_some-day.ensures.few l.invariant.0, λ e. rw most (took_then _ _ _ _ _ _ _ _ (l.invariant.1 (rw more)) more (c.take_some-day.ensures.taken e)))
