-- `put_carried` meets its contract: the value, or nothing.
use Rattle.std.proofs.Common.{arith}
use Rattle.day_printing.proofs.Texts.{none-put, is_carried, not_carried}
use Rattle.day_printing.proofs.refusals.put_carried.Goals as goal

pub put_value-requires : goal.put_value-requires
put_value-requires c = rw (is_carried c.args.is c.args.value c.if-is.true) at c.requires

pub returns-then-is : goal.returns-then-is
returns-then-is c = rw (is_carried c.args.is c.args.value c.if-is.true) c.put_value.ensures

pub returns : goal.returns
returns c = let a = c.args in rw (not_carried a.is a.value c.if-is.false) (none-put a.at a.out.now (omega (arith, c.requires)))
