-- `put_opened` meets its contract: an opening that is refused, and one that is done.
use mathlib.Core.Path.{sym, ap}
use Rattle.types.specs.Replies.{number_of, values_of}
use Rattle.types.specs.Answers.{reply_of}
use Rattle.day_booking.proofs.Printed.{opening_done, opening_refused}
use Rattle.day_booking.proofs.put_opened.Goals as goal

pub returns-in-Err : goal.returns-in-Err
returns-in-Err c =
    let a = c.args in
    let why = c.in-Err.why in
    rw (sym (opening_refused _ a.cash.value c.new-made.ensures a.opened a.numbers.now a.lines.now (number_of why) (values_of why) (ap reply_of c.in-Err.is)))
    (rw c.from.ensures at c.put_refused.ensures)

pub returns : goal.returns
returns c =
    let a = c.args in
    rw (sym (opening_done _ a.cash.value c.new-made.ensures a.opened a.numbers.now a.lines.now (ap reply_of c.in_default.is))) c.put_booked.ensures
