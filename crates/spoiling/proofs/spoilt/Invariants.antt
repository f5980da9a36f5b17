-- `spoilt` keeps its counts: each place adds at most 512.
use Rattle.std.proofs.Common.{◌≤◌, ◌*◌}
use Rattle.spoiling.proofs.spoilt.Given as goal

abbrev pub invariant-loop-i : goal.invariant-loop-i
invariant-loop-i l = (l.all.tried ≤ 512 * l.i) × (l.all.frames ≤ 512 * l.i)
