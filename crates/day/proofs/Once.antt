-- Any two results that meet a day's promise are equal: the ledger and the count are the definition's, and its reply names one outcome.
use Rattle.std.proofs.Common.{◌≡◌, sym, ap, ◌∙◌}
use Rattle.types.specs.Runs.{Run}
use Rattle.types.proofs.Once.{one_answer}
use Rattle.position.specs.declared.PositionLedger.{PositionLedger}
use Rattle.day.specs.Day.{day_of}
use Rattle.day.specs.declared.DayBooked.{DayBooked}

pub one_day : (d : Run PositionLedger) (x y : DayBooked) → day_of x ≡ d → day_of y ≡ d → x ≡ y
one_day d x y p q =
    let e : day_of x ≡ day_of y = p ∙ sym q in
    let l : x.ledger ≡ y.ledger = ap (λ (r : Run PositionLedger). r.stands) e in
    let n : x.taken ≡ y.taken = ap (λ (r : Run PositionLedger). r.taken) e in
    let o = one_answer d.reply x.outcome y.outcome (ap (λ (r : Run PositionLedger). r.reply) p) (ap (λ (r : Run PositionLedger). r.reply) q) in
    λ i. record { ledger = l i; taken = n i; outcome = o i }
