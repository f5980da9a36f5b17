-- `collect` meets its contract: there is room for the fills that are kept, and a text was taken so far, in so many turns.
use Rattle.std.proofs.Common.{◌*◌, ◌≡◌, ◌≤◌, true, ◌||◌, []}
use Rattle.day_keeping.specs.Inner.Keeping.{is_going, is_good, kept}
use Rattle.day_collecting.specs.Inner.Collecting.{none_kept, Took}
use Rattle.day_collecting.proofs.collect.Given as goal

abbrev pub invariant-loop-turn : goal.invariant-loop-turn
invariant-loop-turn g l =
    (l.fills.count ≤ 100000) ×
    ((is_going l.day.reading || is_good l.day.reading) ≡ true → Took (l._turn * 65536) (none_kept l.initial.fills.numbers l.initial.fills.lines) [] (kept l.day l.fills) l.line)
