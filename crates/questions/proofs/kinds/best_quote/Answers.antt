-- `kinds::best_quote` meets its contract: both best levels answer, and 1 of a record that is no book.
use mathlib.Core.Path.{refl}
use Rattle.types.specs.declared.Side.TheVariants.{Bid, Ask}
use Rattle.types.proofs.Booleans.{failed}
use Rattle.questions.specs.Questions.{best_quote}
use Rattle.orderbook.proofs.Books.{behind, lent_side}
use Rattle.questions.proofs.kinds.best_quote.Goals as goal

pub returns-then-not-is_book : goal.returns-then-not-is_book
unfolding best_quote
returns-then-not-is_book c = rw (failed c.is_book.ensures c.if-not-is_book.true-raw)

pub best_of-requires : goal.best_of-requires
best_of-requires c = ((behind c.args.book c.is_book.ensures c.if-not-is_book.false-raw).side Bid).few

pub best_of-requires-2 : goal.best_of-requires-2
best_of-requires-2 c = ((behind c.args.book c.is_book.ensures c.if-not-is_book.false-raw).side Ask).few

pub returns : goal.returns
unfolding best_quote
returns c = rw ((behind c.args.book c.is_book.ensures c.if-not-is_book.false-raw).is, c.best_quote.ensures, c.best_of-2.ensures, c.best_of.ensures)
