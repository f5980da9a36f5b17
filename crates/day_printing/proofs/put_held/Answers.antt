-- `put_held` meets its contract: nothing where all is 0, else the position.
use Rattle.std.proofs.Common.{sym, ◌∙◌, arith}
use Rattle.day_printing.proofs.Texts.{none-put, is_held, not-held}
use Rattle.day_printing.proofs.put_held.Goals as goal

pub returns-then-is_all_zero : goal.returns-then-is_all_zero
returns-then-is_all_zero c =
    let a = c.args in
    rw (not-held a.symbol a.position (sym c.is_all_zero.ensures ∙ c.if-is_all_zero.true)) (none-put a.at a.out.now (omega (arith, c.requires)))

pub put_position-requires : goal.put_position-requires
put_position-requires c = rw (is_held c.args.symbol c.args.position (sym c.is_all_zero.ensures ∙ c.if-is_all_zero.false)) at c.requires

pub returns : goal.returns
returns c = rw (is_held c.args.symbol c.args.position (sym c.is_all_zero.ensures ∙ c.if-is_all_zero.false)) c.put_position.ensures
