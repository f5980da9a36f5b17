-- What io wrote is the decimal, and it is put.
use native.Mathlib.Omega.{arith}
use Rattle.decimals.proofs.Digits.{io_decimal}
use Rattle.decimals.proofs.put_number.Goals as goal

pub put-requires : goal.put-requires
put-requires c = let d = c.decimal-k in rw (io_decimal c.args.n d.result _ (omega arith) d.ensures.len d.ensures.digits) c.requires

pub returns : goal.returns
returns c = let d = c.decimal-k in rw (io_decimal c.args.n d.result _ (omega arith) d.ensures.len d.ensures.digits) at c.put.ensures
