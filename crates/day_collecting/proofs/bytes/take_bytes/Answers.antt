-- `take_bytes` meets its contract: where nothing more is read, nothing more is taken.
use Rattle.std.proofs.Common.{◌≡◌, ◌∙◌, false, rules, tests}
use Rattle.day_keeping.specs.Inner.Keeping.{is_going}
use Rattle.day_collecting.proofs.Texts.{none-taken}
use Rattle.day_collecting.proofs.bytes.take_bytes.Goals as goal

pub returns-then-not-is_going-clause-goes : goal.returns-then-not-is_going-clause-goes
returns-then-not-is_going-clause-goes g c =
    let l = c.loop-byte in
    let ended : is_going l.after.reading ≡ false = search (rules, tests) in
    λ rest. l.invariant.1 rest ∙ none-taken c.args.bytes.now l.byte-index _ _ ended rest
