-- What a day's booking means, for whoever answers for the account. Proved in proofs/Meaning.antt.
use Rattle.std.specs.Prelude.{◌≡◌, ℕ, ◌<◌, true, false, List, [], ◌∷◌, ◌++◌, length, take, ℤ, slice_index_or}
use Rattle.types.specs.Replies.{done, refused}
use Rattle.types.specs.Runs.{ended, one_more, if_done, and_then}
use Rattle.holding.specs.declared.Fill.{Fill}
use Rattle.position.specs.declared.PositionLedger.{PositionLedger}
use Rattle.position.specs.Ledger.{is_ledger, booked, booked_all}
use Rattle.day.specs.Day.{day_booked}
use Rattle.day.specs.Numbers.{fills_numbers, day_booked_by}

-- Fill by fill: one that is answered 0 is counted, and the others follow from the ledger that it leaves; any other answer ends the day there.
abbrev pub FillByFill : Type 0
FillByFill =
    (l : PositionLedger) (f : Fill) (fs : List Fill) →
    day_booked l (f ∷ fs) ≡ if_done (booked l f).reply (one_more (day_booked (booked l f).ledger fs)) (ended l (booked l f).reply)

-- The ledger is that of booking the first fills singly, as many as were taken.
abbrev pub AsSingly : Type 0
AsSingly = (l : PositionLedger) (fs : List Fill) → let day = day_booked l fs in day.stands ≡ booked_all l (take day.taken fs)

-- Each of these was answered 0 when it was booked to what those before it left. (`get_or fs i d` is the fill at place i, from 0.)
abbrev pub EachTaken : Type 0
EachTaken =
    (l : PositionLedger) (fs : List Fill) (d : Fill) (i : ℕ) → i < (day_booked l fs).taken → (booked (booked_all l (take i fs)) (slice_index_or fs i d)).reply ≡ done tt

-- Where the answer is 0, all were taken.
abbrev pub AllTaken : Type 0
AllTaken = (l : PositionLedger) (fs : List Fill) → let day = day_booked l fs in day.reply ≡ done tt → day.taken ≡ length fs

-- The fill behind those that were taken is there; booked to the ledger that they left it is answered so, and leaves that ledger as it is.
pub record Refused (l : PositionLedger) (fs : List Fill) (d : Fill) (n : ℕ) (vs : List ℤ) : Type 0 where
  pub is_there : (day_booked l fs).taken < length fs
  pub its_own : let day = day_booked l fs in (booked day.stands (slice_index_or fs day.taken d)).reply ≡ refused n vs
  pub changes_nothing : let day = day_booked l fs in (booked day.stands (slice_index_or fs day.taken d)).ledger ≡ day.stands

-- Where the answer to a ledger is a refusal, it is that fill's.
abbrev pub FirstRefused : Type 0
FirstRefused = (l : PositionLedger) (fs : List Fill) (d : Fill) (n : ℕ) (vs : List ℤ) → is_ledger l ≡ true → (day_booked l fs).reply ≡ refused n vs → Refused l fs d n vs

-- What is left of a ledger is a ledger.
abbrev pub DayKeeps : Type 0
DayKeeps = (l : PositionLedger) (fs : List Fill) → is_ledger l ≡ true → is_ledger (day_booked l fs).stands ≡ true

-- A record that is no ledger is answered 1 at once and comes back, whatever the fills are, with none too.
abbrev pub NoLedger : Type 0
NoLedger = (l : PositionLedger) (fs : List Fill) → is_ledger l ≡ false → day_booked l fs ≡ ended l (refused 1 [])

-- To a ledger, no fills are 0.
abbrev pub NoFills : Type 0
NoFills = (l : PositionLedger) → is_ledger l ≡ true → day_booked l [] ≡ ended l (done tt)

-- A list of one fill is that fill, booked singly.
abbrev pub OneFill : Type 0
OneFill = (l : PositionLedger) (f : Fill) → let one = booked l f in day_booked l (f ∷ []) ≡ record { stands = one.ledger; taken = if_done one.reply 1 0; reply = one.reply }

-- Fills and then others in one call are the same as in two, the second only if the first took all of its own.
abbrev pub InTwoCalls : Type 0
InTwoCalls = (l : PositionLedger) (fs gs : List Fill) → day_booked l (fs ++ gs) ≡ and_then (day_booked l fs) (λ (m : PositionLedger). day_booked m gs)

-- Fills that are lent as numbers are booked as the fills are.
abbrev pub ByNumbers : Type 0
ByNumbers = (l : PositionLedger) (fs : List Fill) → day_booked_by l (fills_numbers fs) ≡ day_booked l fs
