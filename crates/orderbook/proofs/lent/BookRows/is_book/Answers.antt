-- `BookRows::is_book` meets its contract: the tests stand in the definition's order.
use Rattle.types.specs.declared.Side.TheVariants.{Bid, Ask}
use Rattle.types.proofs.Booleans.{passed, failed}
use Rattle.levels.proofs.Tables.{formed}
use Rattle.orderbook.specs.Book.{sides_fit}
use Rattle.orderbook.proofs.lent.BookRows.is_book.Goals as goal

pub returns-then-not-well_formed : goal.returns-then-not-well_formed
unfolding sides_fit
returns-then-not-well_formed c = rw (failed c.well_formed-2.ensures c.if-not-well_formed.true-raw)

pub returns-then-not-well_formed-2 : goal.returns-then-not-well_formed-2
unfolding sides_fit
returns-then-not-well_formed-2 c = rw (passed c.well_formed-2.ensures c.if-not-well_formed.false-raw, failed c.well_formed-3.ensures c.if-not-well_formed-2.true-raw)

pub best_of-requires : goal.best_of-requires
best_of-requires c = (formed Bid _ (passed c.well_formed-2.ensures c.if-not-well_formed.false-raw)).few

pub best_of-requires-2 : goal.best_of-requires-2
best_of-requires-2 c = (formed Ask _ (passed c.well_formed-3.ensures c.if-not-well_formed-2.false-raw)).few

pub returns : goal.returns
unfolding sides_fit
returns c =
    rw (passed c.well_formed-2.ensures c.if-not-well_formed.false-raw, passed c.well_formed-3.ensures c.if-not-well_formed-2.false-raw, c.is_apart.ensures, c.best_of-2.ensures, c.best_of.ensures)
