-- `wire::read_column` meets its contract. The invariant: the first i numbers stand at the front of the row.
use Rattle.std.proofs.Common.{◌≡◌, ◌++◌, ◌*◌, drop}
use Rattle.wire.specs.Wire.{column}
use Rattle.wire.proofs.read_column.Given as goal

abbrev pub invariant-loop-i : goal.invariant-loop-i
invariant-loop-i l = l.row ≡ column l.i (drop (2 * l.at) l.line) ++ drop l.i l.initial.row
