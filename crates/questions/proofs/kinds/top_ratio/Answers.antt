-- `kinds::top_ratio` meets its contract: a book's best levels are apart and within the limits, and 1 answers of a record that is no book.
use mathlib.Core.Path.{sym}
use Rattle.types.specs.declared.Side.TheVariants.{Bid, Ask}
use Rattle.types.proofs.Booleans.{failed}
use Rattle.orderbook.proofs.Books.{behind, best_small}
use Rattle.questions.proofs.Asks.{top_none, top_asked}
use Rattle.questions.proofs.kinds.top_ratio.Goals as goal

pub returns-then-not-is_book : goal.returns-then-not-is_book
returns-then-not-is_book c = sym (top_none _ (failed c.is_book.ensures c.if-not-is_book.true-raw) c.args.question)

pub best_of-requires : goal.best_of-requires
best_of-requires c = ((behind c.args.book c.is_book.ensures c.if-not-is_book.false-raw).side Bid).few

pub best_of-requires-2 : goal.best_of-requires-2
best_of-requires-2 c = ((behind c.args.book c.is_book.ensures c.if-not-is_book.false-raw).side Ask).few

pub top_ratio-requires : goal.top_ratio-requires
top_ratio-requires c = let k = behind c.args.book c.is_book.ensures c.if-not-is_book.false-raw in rw (c.best_of.ensures, c.best_of-2.ensures) (k.apart, best_small k Bid, best_small k Ask)

pub returns : goal.returns
returns c = rw (top_asked (behind c.args.book c.is_book.ensures c.if-not-is_book.false-raw) c.args.question, c.top_ratio.ensures, c.best_of-2.ensures, c.best_of.ensures)
