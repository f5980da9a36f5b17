-- `rows::book_first`: numbers that are no fill are refused as the fill that they count as is.
use mathlib.Core.Path.{sym}
use Rattle.std.proofs.lemmas.Result.{err_from_is_err_and}
use Rattle.day.proofs.Numbers.{outside}
use Rattle.day.proofs.Back.{none_booked}
use Rattle.day.proofs.rows.book_first.Goals as goal

pub returns-in_err-fill : goal.returns-in_err-fill
returns-in_err-fill c =
    let p = err_from_is_err_and c.from_residual.result c.from_residual.ensures.1 in
    let o = outside _ _ _ c.in_err-fill.ensures in
    rw (p.1, p.2, o.1, o.2) (sym (none_booked _ c.args.numbers.now c.requires.0 o.0))
