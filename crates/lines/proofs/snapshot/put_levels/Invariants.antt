-- `lines::snapshot::put_levels` meets its contract. The invariant: the first i levels are written, and the sum is that of their bytes.
use mathlib.Core.List.{[]}
use Rattle.levels.specs.Table.{levels, rows}
use Rattle.wire.specs.Wire.{Part}
use Rattle.frames.specs.Frames.{level_bytes}
use Rattle.lines.proofs.snapshot.put_levels.Given as goal

abbrev pub invariant-loop-i : goal.invariant-loop-i
invariant-loop-i l = Part (level_bytes (levels (rows l.lent.prices.now l.lent.quantities.now l.i)) []) l.at l.initial.out l.out l.sum
