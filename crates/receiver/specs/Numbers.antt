-- The numbers of a receiver's state.
use Rattle.std.specs.Prelude.{ℕ, Bool, cond}
use Rattle.receiver.specs.declared.State.{State}
use Rattle.receiver.specs.declared.State.TheVariants.{Waiting, Live}

-- live where the flag is set, else waiting
abbrev pub state_if : Bool → State
state_if live = cond live Live Waiting

-- the number of a state
abbrev pub state_number : State → ℕ
state_number Waiting = 0
state_number Live = 1
