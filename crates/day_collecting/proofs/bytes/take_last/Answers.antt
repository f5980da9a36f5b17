-- `take_last` meets its contract: what is held is a line, if it has a byte.
use Rattle.std.proofs.Common.{◌≡◌, ◌<◌, length, rules, tests}
use Rattle.day_keeping.specs.Inner.Keeping.{kept}
use Rattle.day_collecting.proofs.Texts.{ended_stops, last_line, no_last_line}
use Rattle.day_collecting.proofs.bytes.take_last.Goals as goal

pub returns-then-is_empty-clause-ended : goal.returns-then-is_empty-clause-ended
returns-then-is_empty-clause-ended g c =
    let a = c.args in
    let none : length a.line.now ≡ 0 = search (rules, tests) in
    rw c.finished.ensures (ended_stops a.day.reading, no_last_line (kept a.day a.fills.now) a.line.now c.requires none)

pub returns-clause-ended : goal.returns-clause-ended
returns-clause-ended g c =
    let a = c.args in
    let e = c.end_line.ensures.ended in
    let some : 0 < length a.line.now = search (rules, tests) in
    rw c.finished-2.ensures (ended_stops c.end_line.result.reading, last_line (kept a.day a.fills.now) a.line.now c.requires _ some e.1)
