-- The calls of crate day: fills lent as records, the wrapper that others call, and fills lent as numbers. The promise of the first
-- is written out here, and `told` says that it is the one in the source.
use Rattle.std.specs.Prelude.{◌≡◌, refl}
use Rattle.std.proofs.Common.{ap, sym, ◌∙◌}
use seplogic.Ra.Ura.{Ura}
use base.Logic.{SProp}
use prog.Memory.{Memory}
use prog.Routine.{Routine}
use types.Logic.{Logic}
use contract.Lifetimes.{Lfts}
use contract.Monad.{Fun, fact}
use denote.Triple.Entry.{Args, Res}
use denote.Triple.Clauses.{AtExit}
use Rattle.types.specs.Answers.{reply_of}
use Rattle.types.specs.Runs.{Run}
use Rattle.types.proofs.Once.{one_answer}
use Rattle.position.specs.Lent.{totals_in}
use Rattle.position.specs.declared.PositionLedger.{PositionLedger}
use Rattle.position.specs.declared.Totals.{Totals}
use Rattle.day.specs.Day.{day_of, day_booked}
use Rattle.day.specs.declared.RowsDay.{RowsDay}
use Rattle.day.proofs.Once.{one_day}
use Rattle.day.proofs as D
use Rattle.day.proofs.rows as R
use Rattle.day.specs.contracts.apply_fills as C
use Rattle.single.specs.One.{One, OneWith}
use Rattle.single.specs.Rows.{ThreeRows, ledger_of_rows, ledger_rows_in}

-- the day is that of the ledger handed in and the fills as they were lent
abbrev pub Learnt : (κs : Lfts 1) → Args C.signature κs → Res C.signature κs → AtExit C.ended κs → Type 0
Learnt κs a r s = day_of r ≡ day_booked a.0 a.1.0.now

-- in any model that is the call's `ensures`
pub told :
    {M : Type 1} {𝓤 : Ura M} (𝓛 : Logic 𝓤) (held : Memory → SProp 𝓤) (run : Routine → Fun 𝓤) (κs : Lfts 1) (a : Args C.signature κs)
    (r : Res C.signature κs) (s : AtExit C.ended κs) → (C.clauses 𝓛 held run κs a).ensures tt r s ≡ fact 𝓤 (Learnt κs a r s)
told 𝓛 held run κs a r s = refl

-- one day
pub apply_fills : One Learnt
apply_fills κs a s t = one_day _

-- the wrapper
module _ where
  pub apply_four : One D.apply_four.Reads.Learnt
  apply_four κs a s t = one_day _

-- the rows and the totals of a ledger that is lent as these
abbrev Lent : Type 0
Lent = ThreeRows × Totals

-- what the rows and the totals make, with the count and the outcome's reply
abbrev made : Lent → RowsDay → Run PositionLedger
made w r = record { stands = ledger_of_rows w.0 w.1; taken = r.taken; reply = reply_of r.outcome }

-- one answer, and one content of the rows and the totals
one-made : (d : Run PositionLedger) (v w : Lent) (x y : RowsDay) → made v x ≡ d → made w y ≡ d → (x ≡ y) × (v ≡ w)
one-made d v w x y p q =
    let e : made v x ≡ made w y = p ∙ sym q in
    let k : x.taken ≡ y.taken = ap (λ (r : Run PositionLedger). r.taken) e in
    let o = one_answer d.reply x.outcome y.outcome (ap (λ (r : Run PositionLedger). r.reply) p) (ap (λ (r : Run PositionLedger). r.reply) q) in
    (λ i. record { taken = k i; outcome = o i }, ap (λ (r : Run PositionLedger). (ledger_rows_in r.stands, totals_in r.stands)) e)

-- fills lent as numbers: the three rows and the totals too
module _ where
  pub rows_apply_fills : OneWith R.apply_fills.Reads.Learnt {X = Lent} (λ κs s. ((s.0.now, s.1.0.now, s.1.1.0.now), s.1.1.1.0.now))
  rows_apply_fills κs a s t x y = one-made _ _ _ x y
