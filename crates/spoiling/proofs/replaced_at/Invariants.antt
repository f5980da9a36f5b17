-- `replaced_at` keeps its counts: each byte adds at most 2.
use Rattle.std.proofs.Common.{◌≤◌, ◌*◌}
use Rattle.spoiling.proofs.replaced_at.Given as goal

abbrev pub invariant-loop-byte : goal.invariant-loop-byte
invariant-loop-byte l = (l.all.tried ≤ 2 * l.byte) × (l.all.frames ≤ 2 * l.byte)
