-- What a call that writes to lent memory leaves there, its answer in numbers.
use Rattle.std.specs.Prelude.{ℕ}
use Rattle.types.specs.Replies.{Reply}
use Rattle.types.specs.Written.{Left}
use Rattle.told.specs.declared.Told.{Told}
use Rattle.told.specs.Numbers.{tell, one_number}

-- how many numbers were written, or the refusal, as numbers, and the memory after it
abbrev pub told_left : Left (Reply ℕ) → Left Told
told_left w = record { answer = tell one_number w.answer; memory = w.memory }
