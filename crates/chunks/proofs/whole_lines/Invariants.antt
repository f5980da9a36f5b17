-- `whole_lines` meets its contract. The loop's invariant: the whole lines are those of the bytes that are left.
use Rattle.std.proofs.Common.{◌≡◌, take}
use Rattle.chunks.specs.Chunks.{whole_end}
use Rattle.chunks.proofs.whole_lines.Given as goal

abbrev pub invariant-loop-at : goal.invariant-loop-at
invariant-loop-at l = whole_end l.text ≡ whole_end (take l.at l.text)
