-- The front of a buffer that an answer's places fill.
use Rattle.std.specs.Prelude.{ℕ, ◌≤◌, List, [], length, take, Result, Ok, Err}
use Rattle.types.specs.declared.Refusal.{Refusal}

-- an answer's places are in the buffer
abbrev pub PlacesFit : Result ℕ Refusal → List ℕ → Type 0
PlacesFit (Ok k) m = k ≤ length m
PlacesFit (Err r) m = Unit {0}

-- so many places, none of a refusal
abbrev pub front_at : Result ℕ Refusal → List ℕ → List ℕ
front_at (Ok k) m = take k m
front_at (Err r) m = []
