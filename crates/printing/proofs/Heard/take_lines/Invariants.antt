-- `take_lines` meets its contract. The loop's invariant: what is left, from here on, comes to what all of it comes to from the start.
use Rattle.std.specs.Slice.Iter.{split_inclusive_rest}
use Rattle.printing.proofs.Runs.{SoFar}
use Rattle.printing.proofs.Heard.take_lines.Given as goal

abbrev pub invariant-loop-line : goal.invariant-loop-line
invariant-loop-line l =
    SoFar l.text l.initial.self.receiver l.initial.self.number l.at l.initial.out (split_inclusive_rest l.line-iterator) l.self.receiver l.self.number l.used l.out
