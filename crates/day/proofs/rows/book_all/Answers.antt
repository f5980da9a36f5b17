-- `rows::book_all`: a fill more is of the first five numbers that are left, and with none left the day is over.
use Rattle.std.proofs.Common.{◌≡◌, ◌+◌, length, ap, ◌∙◌, length-append, arith}
use Rattle.std.specs.Slice.Iter.{chunks_exact_rest}
use Rattle.types.specs.Replies.{number_of, values_of}
use Rattle.types.specs.Answers.{reply_of}
use Rattle.day.proofs.Numbers.{fills_begin, fills_over}
use Rattle.day.proofs.Steps.{goes_on, stops, is_over, leaves_ledger}
use Rattle.day.proofs.rows.book_all.Goals as goal

pub loop-five-preserved : goal.loop-five-preserved
loop-five-preserved c =
    let inv = c.loop-five.invariant in
    let w = c.in-Some.ensures.steps in
    let five : length c.in-Some.five.now ≡ 5 = w.1.1 ∙ inv.size in
    let left = rw (fills_begin _ _ _ w.1.0 five) at inv.day in
    let behind : length (chunks_exact_rest c.loop-five.five-iterator) ≡ 5 + length (chunks_exact_rest c.next.new.self) = ap length w.1.0 ∙ simp (length-append, five) in
    let taken = ap reply_of c.in-Ok.is in
    record {
      size = w.0 ∙ inv.size;
      few = omega arith;
      stands = leaves_ledger _ _ _ c.book_first-outcome.ensures taken;
      day = goes_on _ _ _ _ _ left _ c.book_first-outcome.ensures taken;
    }

pub returns-in_default : goal.returns-in_default
returns-in_default c =
    let why = c.in_default.field-0 in
    let w = c.in-Some.ensures.steps in
    let left = rw (fills_begin _ _ _ w.1.0 (w.1.1 ∙ c.loop-five.invariant.size)) at c.loop-five.invariant.day in
    stops _ _ _ _ _ left _ c.book_first-outcome.ensures (number_of why) (values_of why) (ap reply_of c.in_default.is)

pub returns : goal.returns
returns c = is_over _ _ _ (rw (fills_over (chunks_exact_rest c.loop-five.five-iterator) (omega (arith, c.in-None.ensures.steps))) at c.loop-five.invariant.day)
