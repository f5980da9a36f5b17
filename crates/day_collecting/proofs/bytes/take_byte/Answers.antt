-- `take_byte` meets its contract: a line feed ends the line, and any other byte is put behind those that are held, or the line is too long.
use Rattle.std.proofs.Common.{◌≡◌, ◌++◌, ◌∷◌, [], ◌<◌, ◌≤◌, length, rules, tests}
use Rattle.day_keeping.specs.Inner.Keeping.{kept}
use Rattle.day_collecting.proofs.Texts.{byte_ends, byte_held, byte_past}
use Rattle.day_collecting.proofs.bytes.take_byte.Goals as goal

pub returns-then-byte-eq-LINE_FEED-clause-goes : goal.returns-then-byte-eq-LINE_FEED-clause-goes
returns-then-byte-eq-LINE_FEED-clause-goes g c =
    let a = c.args in
    let e = c.end_line.ensures.ended in
    byte_ends (kept a.day a.fills.now) a.line.now a.byte c.requires c.if-byte-eq-LINE_FEED.true _ _ e.1 e.0

pub returns-then-push-clause-goes : goal.returns-then-push-clause-goes
returns-then-push-clause-goes g c =
    let a = c.args in
    let room : length a.line.now < 4096 = search (rules, tests) in
    let behind : c.push.new.self ≡ a.line.now ++ (a.byte ∷ []) = search (rules, tests) in
    rw behind (byte_held (kept a.day a.fills.now) a.line.now a.byte c.requires c.if-byte-eq-LINE_FEED.false room)

pub returns-clause-goes : goal.returns-clause-goes
returns-clause-goes g c =
    let a = c.args in
    let full : 4096 ≤ length a.line.now = search (rules, tests) in
    rw c.fault.ensures (byte_past (kept a.day a.fills.now) a.line.now a.byte c.requires c.if-byte-eq-LINE_FEED.false full _)
