-- Where those of some prices that are ahead of another end.
use Rattle.std.specs.Prelude.{ℕ, ◌+◌, ◌≤◌, List}
use Rattle.types.specs.declared.Side.{Side}
use Rattle.levels.specs.Order.{count_ahead}

-- from the place i on, and at most w places further
abbrev pub EndIn : Side → ℕ → List ℕ → ℕ → ℕ → Type 0
EndIn s p xs i w = (i ≤ count_ahead s p xs) × (count_ahead s p xs ≤ i + w)
