-- The numbers of a delta: their limits, and how an action is numbered.
use Rattle.std.specs.Prelude.{ℕ, Bool, cond, ◌&&◌, eqb}
use Rattle.types.specs.Limits.{is_price, is_quantity}
use Rattle.deltas.specs.declared.DeltaAction.{DeltaAction}
use Rattle.deltas.specs.declared.DeltaAction.TheVariants.{Set, Remove}

-- the numbers are within their limits; Remove ignores the quantity, whatever its size
abbrev pub delta_fits : DeltaAction → ℕ → ℕ → Bool
delta_fits Set p q = is_price p && is_quantity q
delta_fits Remove p q = is_price p

-- the number of an action: 0 Set, 1 Remove
abbrev pub action_number : DeltaAction → ℕ
action_number Set = 0
action_number Remove = 1

-- the action that a flag names: Remove where it is set
abbrev pub action_if : Bool → DeltaAction
action_if remove = cond remove Remove Set

-- the action of a number; whether the number is one of the two is tested where it comes in
abbrev pub action_named : ℕ → DeltaAction
action_named n = action_if (eqb n 1)
