-- `kinds::volume_ratio` meets its contract: the totals of the levels that it takes are handed on, and 1 answers of a record that is no book.
use mathlib.Core.Path.{sym, refl}
use Rattle.types.specs.declared.Side.TheVariants.{Bid, Ask}
use Rattle.types.proofs.Booleans.{failed}
use Rattle.orderbook.proofs.Books.{behind, lent_side}
use Rattle.questions.proofs.Asks.{volume_none, volume-asked}
use Rattle.questions.proofs.kinds.volume_ratio.Goals as goal

pub returns-then-not-is_book : goal.returns-then-not-is_book
returns-then-not-is_book c = sym (volume_none _ (failed c.is_book.ensures c.if-not-is_book.true-raw) c.args.question)

pub best_total-bid-requires : goal.best_total-bid-requires
best_total-bid-requires c = (lent_side (behind c.args.book c.is_book.ensures c.if-not-is_book.false-raw) Bid c.args.book.bids refl).known

pub best_total-ask-requires : goal.best_total-ask-requires
best_total-ask-requires c = (lent_side (behind c.args.book c.is_book.ensures c.if-not-is_book.false-raw) Ask c.args.book.asks refl).known

pub returns : goal.returns
returns c =
    rw (volume-asked (behind c.args.book c.is_book.ensures c.if-not-is_book.false-raw) c.args.question, c.volume_ratio.ensures, c.best_total-ask.ensures.0, c.best_total-bid.ensures.0, c.depth-depth.ensures)
