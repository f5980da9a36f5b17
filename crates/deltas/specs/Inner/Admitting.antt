-- What a delta's own numbers tell of its step, before its side is looked at.
use Rattle.std.specs.Prelude.{ℕ, ◌≡◌, List, Result, Ok, Err}
use Rattle.types.specs.declared.Side.{Side}
use Rattle.types.specs.declared.Refusal.{Refusal}
use Rattle.changes.specs.declared.Edit.{Edit}
use Rattle.deltas.specs.declared.BookDelta.{BookDelta}
use Rattle.deltas.specs.Inner.Deciding.{action_step, step_of}

-- a step, unless there is a refusal before it
abbrev pub unless_refused : Result (Unit {0}) Refusal → Result Edit Refusal → Result Edit Refusal
unless_refused (Ok u) st = st
unless_refused (Err r) st = Err r

-- on any side of a book of this sequence, a delta that is admitted is its action's step, and one that is not is refused
abbrev pub Admission : Result (Unit {0}) Refusal → ℕ → BookDelta → Type 0
Admission o held d =
    (s : Side) (prices : List ℕ) (n best : ℕ) → step_of s prices n best held d ≡ unless_refused o (action_step d.action s prices n best d.price)
