-- `put_refused` meets its contract: nothing for 0, else the refusal.
use Rattle.std.proofs.Common.{◌+◌, ◌≤◌, length, arith}
use Rattle.day_printing.specs.Booked.{refused_text}
use Rattle.day_printing.proofs.Texts.{none-put, is_refused, not_refused, refused_short}
use Rattle.day_printing.proofs.refusals.put_refused.Goals as goal

pub returns-then-told-eq0 : goal.returns-then-told-eq0
returns-then-told-eq0 c =
    let a = c.args in
    rw (not_refused a.told a.line c.if-told-eq0.true) (none-put a.at a.out.now (omega (arith, c.requires)))

pub put_refusal-requires : goal.put_refusal-requires
put_refusal-requires c =
    let a = c.args in
    let all : a.at + length (refused_text a.told a.line) ≤ length a.out.now = omega (arith, c.requires, refused_short a.told a.line) in
    rw (is_refused a.told a.line c.if-told-eq0.false) at all

pub returns : goal.returns
returns c = rw (is_refused c.args.told c.args.line c.if-told-eq0.false) c.put_refusal.ensures
