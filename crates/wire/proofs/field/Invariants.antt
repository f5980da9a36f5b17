-- `wire::field` meets its contract. The invariant: n is the number that the digits so far spell.
use Rattle.std.proofs.Common.{◌≡◌, take}
use Rattle.wire.specs.Wire.{spelt}
use Rattle.wire.proofs.field.Given as goal

abbrev pub invariant-loop-digit : goal.invariant-loop-digit
invariant-loop-digit l = l.n ≡ spelt 0 (take l.digit-index l.digit-items)
