-- What a day's booking means (specs/Meaning.antt), from what any run of changes means.
use Rattle.std.proofs.Common.{◌≡◌, ◌<◌, Bool, true, false, cond, List, [], ◌∷◌, ◌++◌, length, get_or, take, sym, refl, ap, ◌∙◌, arith}
use Rattle.types.specs.Replies.{Reply, done, refused}
use Rattle.types.specs.Runs.{ended, one_more, if_done, and_then, until_refused}
use Rattle.types.proofs.Once.{never}
use Rattle.types.proofs.Runs.{after_all, run_stands, run_each, run-all, run-first, run_keeps, run_append}
use Rattle.holding.specs.declared.Fill.{Fill}
use Rattle.position.specs.declared.PositionLedger.{PositionLedger}
use Rattle.position.specs.Ledger.{Change, is_ledger, kept, booked, booked_all}
use Rattle.position.proofs.Kept.{fill_keeps}
use Rattle.day.specs.Day.{ledger_after, reply_after, booked_in_order, day_booked}
use Rattle.day.specs.Meaning.{FillByFill, AsSingly, EachTaken, AllTaken, FirstRefused, DayKeeps, NoLedger, NoFills, OneFill, InTwoCalls}

-- booking singly is offering each in order
singly : (l : PositionLedger) (fs : List Fill) → after_all ledger_after l fs ≡ booked_all l fs
unfolding after_all booked_all
singly l [] = refl
singly l (f ∷ fs) = singly (ledger_after l f) fs

-- a day by the test of its record
module _ (l : PositionLedger) (fs : List Fill) where
  of_ledger_lem : is_ledger l ≡ true → day_booked l fs ≡ booked_in_order l fs
  unfolding day_booked
  of_ledger_lem h = rw h

  of_none : is_ledger l ≡ false → day_booked l fs ≡ ended l (refused 1 [])
  unfolding day_booked
  of_none h = rw h

-- a fill to a record that is no ledger
none-booked : (l : PositionLedger) (f : Fill) → is_ledger l ≡ false → refused 1 [] ≡ reply_after l f
unfolding booked
none-booked l f h = let e : booked l f ≡ kept l 1 [] = rw h in ap (λ (c : Change). c.reply) (sym e)

pub fill_by_fill : FillByFill
unfolding until_refused
fill_by_fill l f fs = by (is_ledger l) refl
  where
    -- the day of a ledger, by the fill's reply
    on : (a : Reply (Unit {0})) → reply_after l f ≡ a →
        if_done a (one_more (booked_in_order (ledger_after l f) fs)) (ended l a) ≡ if_done a (one_more (day_booked (ledger_after l f) fs)) (ended l a)
    on (done u) e = rw (of_ledger_lem (ledger_after l f) fs ((fill_keeps l f).ledger e))
    on (refused n vs) e = refl

    by : (t : Bool) → is_ledger l ≡ t → day_booked l (f ∷ fs) ≡ if_done (reply_after l f) (one_more (day_booked (ledger_after l f) fs)) (ended l (reply_after l f))
    by true h = of_ledger_lem l (f ∷ fs) h ∙ on (reply_after l f) refl
    by false h = of_none l (f ∷ fs) h ∙ ap (λ (a : Reply (Unit {0})). if_done a (one_more (day_booked (ledger_after l f) fs)) (ended l a)) (none-booked l f h)

pub as_singly : AsSingly
unfolding day_booked booked_all
as_singly l fs = by (is_ledger l)
  where
    by : (t : Bool) → let day = cond t (booked_in_order l fs) (ended l (refused 1 [])) in day.stands ≡ booked_all l (take day.taken fs)
    by true = run_stands ledger_after reply_after l fs ∙ singly l _
    by false = refl

pub each_taken : EachTaken
unfolding day_booked
each_taken l fs d i = by (is_ledger l)
  where
    by : (t : Bool) → i < (cond t (booked_in_order l fs) (ended l (refused 1 []))).taken → (booked (booked_all l (take i fs)) (get_or fs i d)).reply ≡ done tt
    by true h = rw (sym (singly l (take i fs))) (run_each ledger_after reply_after d l fs i h)
    by false h = absurd (omega arith)

pub all-taken : AllTaken
unfolding day_booked
all-taken l fs = by (is_ledger l)
  where
    by : (t : Bool) → let day = cond t (booked_in_order l fs) (ended l (refused 1 [])) in day.reply ≡ done tt → day.taken ≡ length fs
    by true e = run-all ledger_after reply_after l fs e
    by false e = never (refused 1 []) 1 [] e refl

pub first_refused : FirstRefused
first_refused l fs d n vs h e =
    let same = of_ledger_lem l fs h in
    let r = run-first ledger_after reply_after d l fs n vs (rw same at e) in
    record { is_there = rw same r.0; its_own = rw same r.1; changes_nothing = rw same ((fill_keeps _ _).same n vs r.1) }

pub day_keeps : DayKeeps
day_keeps l fs h = rw (of_ledger_lem l fs h) (run_keeps ledger_after reply_after (λ (m : PositionLedger). is_ledger m ≡ true) (λ m f _. (fill_keeps m f).ledger) l fs h)

pub no_ledger : NoLedger
no_ledger = of_none

pub no_fills : NoFills
unfolding until_refused
no_fills l h = of_ledger_lem l [] h

pub one-fill : OneFill
one-fill l f = fill_by_fill l f [] ∙ by (booked l f).reply refl
  where
    by : (a : Reply (Unit {0})) → (booked l f).reply ≡ a →
        if_done a (one_more (day_booked (booked l f).ledger [])) (ended l a) ≡ record { stands = (booked l f).ledger; taken = if_done a 1 0; reply = a }
    by (done u) e = rw (no_fills (booked l f).ledger ((fill_keeps l f).ledger e))
    by (refused n vs) e = rw ((fill_keeps l f).same n vs e)

pub in_two_calls : InTwoCalls
in_two_calls l fs gs = by (is_ledger l) refl
  where
    by : (t : Bool) → is_ledger l ≡ t → day_booked l (fs ++ gs) ≡ and_then (day_booked l fs) (λ (m : PositionLedger). day_booked m gs)
    by true h =
        of_ledger_lem l (fs ++ gs) h ∙ run_append ledger_after reply_after l fs gs ∙
        rw (of_ledger_lem l fs h, of_ledger_lem (booked_in_order l fs).stands gs (rw (of_ledger_lem l fs h) at (day_keeps l fs h)))
    by false h = rw (of_none l (fs ++ gs) h, of_none l fs h)
