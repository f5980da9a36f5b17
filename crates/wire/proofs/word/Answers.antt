-- `wire::word` meets its contract: 8 digits spell a number of 4 bytes.
use native.Mathlib.Omega.{arith}
use Rattle.wire.proofs.Bytes.{field-word}
use Rattle.wire.proofs.word.Goals as goal

pub overflow_cast-result : goal.overflow_cast-result
overflow_cast-result c = omega (arith, c.field.ensures, field-word c.args.at c.args.line.now)
