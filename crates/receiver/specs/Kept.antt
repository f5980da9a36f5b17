-- What every line keeps, taken or not. Proved in proofs/Kept.antt.
use Rattle.std.specs.Prelude.{ℕ, ◌≤◌, Bool, true, cond, ◌||◌, ◌≡◌, List, eqb, ℤ}
use Rattle.types.specs.Replies.{refused}
use Rattle.receiver.specs.declared.State.{State}
use Rattle.receiver.specs.declared.State.TheVariants.{Waiting, Live}
use Rattle.receiver.specs.declared.Receiver.{Receiver}
use Rattle.receiver.specs.Turns.{is_receiver, held, taken}

-- the answers that turn a live receiver to waiting: a gap, and a next delta that the book refuses
abbrev pub turns_away : ℕ → Bool
turns_away n = eqb n 15 || eqb n 17

-- A line that is not taken leaves the book. The state is unchanged too, or it turns from live to waiting at 15 or 17.
abbrev pub NotTaken : Type 0
NotTaken =
    (r : Receiver) (l : List ℕ) (n : ℕ) (vs : List ℤ) → (taken r l).reply ≡ refused n vs →
    ((taken r l).receiver ≡ record { state = cond (turns_away n) Waiting r.state; book = r.book }) × (turns_away n ≡ true → r.state ≡ Live)

-- a line leaves a receiver
abbrev pub StaysReceiver : Type 0
StaysReceiver = (r : Receiver) (l : List ℕ) → is_receiver r ≡ true → is_receiver (taken r l).receiver ≡ true

-- the number held never falls
abbrev pub NeverFalls : Type 0
NeverFalls = (r : Receiver) (l : List ℕ) → held r ≤ held (taken r l).receiver
