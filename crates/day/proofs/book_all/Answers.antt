-- `book_all`: a fill more is the first of those that are left, and with none left the day is over.
use Rattle.std.proofs.Common.{◌≡◌, length, ap, arith}
use lib.Seq.{drop-length}
use Rattle.types.specs.Replies.{number_of, values_of}
use Rattle.types.specs.Answers.{reply_of}
use Rattle.day.proofs.Steps.{begins, goes_on, stops, is_over, leaves_ledger}
use Rattle.day.proofs.book_all.Goals as goal

pub loop-fill-preserved : goal.loop-fill-preserved
loop-fill-preserved c =
    let taken = ap reply_of c.in-Ok.is in
    let left = begins c.args.fills.now c.loop-fill.fill-index _ (omega arith) _ _ _ c.loop-fill.invariant.2 in
    (omega arith, leaves_ledger _ _ _ c.apply_fill-booked.ensures taken, goes_on _ _ _ _ _ left _ c.apply_fill-booked.ensures taken)

pub returns-in_default : goal.returns-in_default
returns-in_default c =
    let why = c.in_default.field-0 in
    let left = begins c.args.fills.now c.loop-fill.fill-index _ (omega arith) _ _ _ c.loop-fill.invariant.2 in
    stops _ _ _ _ _ left _ c.apply_fill-booked.ensures (number_of why) (values_of why) (ap reply_of c.in_default.is)

pub returns : goal.returns
returns c =
    let e : c.loop-fill.fill-index ≡ length c.args.fills.now = omega arith in
    is_over _ _ _ (rw (e, drop-length) at c.loop-fill.invariant.2)
