-- `take_bytes` meets its contract. The loop's invariant: there is room for the fills that are kept, and what is left to take, and whatever follows, come to
-- what all of it comes to.
use Rattle.std.proofs.Common.{ℕ, ◌≡◌, ◌≤◌, List, ◌++◌, drop}
use Rattle.day_keeping.specs.Inner.Keeping.{kept}
use Rattle.day_collecting.specs.Inner.Collecting.{text_taken}
use Rattle.day_collecting.proofs.bytes.take_bytes.Given as goal

abbrev pub invariant-loop-byte : goal.invariant-loop-byte
invariant-loop-byte g l =
    (l.initial.fills.count ≤ 100000 → l.fills.count ≤ 100000) ×
    ((rest : List ℕ) → text_taken (kept l.initial.after l.initial.fills) l.initial.line (l.bytes ++ rest) ≡ text_taken (kept l.after l.fills) l.line (drop l.byte-index l.bytes ++ rest))
