-- Any two results that meet the promise of a change are equal: the ledger is the definition's, and its reply names one outcome.
use Rattle.std.specs.Prelude.{Result}
use mathlib.Core.Path.{◌≡◌, ap, sym, ◌∙◌}
use Rattle.types.proofs.Once.{one_answer}
use Rattle.position.specs.Ledger.{Change, change_of}
use Rattle.position.specs.declared.Booked.{Booked}
use Rattle.position.specs.declared.PositionLedger.{PositionLedger}
use Rattle.types.specs.declared.Refusal.{Refusal}

same_parts : {l m : PositionLedger} {o p : (Result (Unit {0}) Refusal)} → l ≡ m → o ≡ p → ◌≡◌ {A = Booked} (record { ledger = l; outcome = o }) (record { ledger = m; outcome = p })
same_parts e f = rw (e, f)

pub one_change : (d : Change) (x y : Booked) → change_of x ≡ d → change_of y ≡ d → x ≡ y
one_change d x y p q =
    same_parts
    (ap (λ (c : Change). c.ledger) (p ∙ sym q))
    (one_answer d.reply x.outcome y.outcome (ap (λ (c : Change). c.reply) p) (ap (λ (c : Change). c.reply) q))
