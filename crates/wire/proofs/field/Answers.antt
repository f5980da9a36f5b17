-- `wire::field` meets its contract. The invariant: n is the number that the digits so far spell.
use Rattle.std.proofs.Common.{◌+◌, ◌*◌, ◌-◌, take, drop, arith}
use Rattle.wire.specs.Wire.{value}
use Rattle.wire.proofs.Bytes.{spelt_more, spelt-below}
use Rattle.wire.proofs.field.Goals as goal

pub overflow_mul-n : goal.overflow_mul-n
overflow_mul-n c =
    let a = c.args in
    let digits = take (2 * (a.at + a.k) - 2 * a.at) (drop (2 * a.at) a.line.now) in
    omega (arith, spelt-below digits c.loop-digit.digit-index 15 (omega arith))

pub overflow_add-n : goal.overflow_add-n
unfolding value
overflow_add-n c =
    let a = c.args in
    let digits = take (2 * (a.at + a.k) - 2 * a.at) (drop (2 * a.at) a.line.now) in
    omega (arith, spelt-below digits c.loop-digit.digit-index 15 (omega arith))
