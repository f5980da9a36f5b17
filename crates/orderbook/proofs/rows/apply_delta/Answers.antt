-- `rows::apply_delta` meets its contract: a book whose delta is not admitted is left.
use Rattle.std.proofs.lemmas.Result.{err_from_is_err_and}
use Rattle.orderbook.specs.Apply.{applied}
use Rattle.orderbook.proofs.Books.{tested}
use Rattle.orderbook.proofs.Steps.{refused-kept}
use Rattle.orderbook.proofs.rows.apply_delta.Goals as goal

pub returns-in_err-admit : goal.returns-in_err-admit
unfolding applied
returns-in_err-admit c =
    let t = tested c.is_book.ensures c.if-not-is_book.false-raw in
    let p = err_from_is_err_and c.from_residual.result c.from_residual.ensures.1 in
    rw (p.1, p.2, t.book.is) (refused-kept t _ _ c.in_err-admit.ensures)
