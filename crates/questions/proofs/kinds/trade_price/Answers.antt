-- `kinds::trade_price` meets its contract: the side that the trade walks is handed on, and 1 answers of a record that is no book.
use mathlib.Core.Path.{sym, ap}
use Rattle.levels.specs.declared.Levels.{Levels}
use Rattle.levels.specs.Table.{levels}
use Rattle.asked.specs.Inner.Kinds.{trade_price}
use Rattle.types.proofs.Booleans.{failed}
use Rattle.orderbook.proofs.Books.{behind, lent_side}
use Rattle.questions.proofs.Asks.{trade-none, trade_asked}
use Rattle.questions.proofs.kinds.trade_price.Goals as goal

pub returns-then-not-is_book : goal.returns-then-not-is_book
returns-then-not-is_book c = sym (trade-none _ (failed c.is_book.ensures c.if-not-is_book.true-raw) c.args.trade c.args.side)

pub trade_price-requires : goal.trade_price-requires
trade_price-requires c = (lent_side (behind c.args.book c.is_book.ensures c.if-not-is_book.false-raw) _ c.side.result c.side.ensures).known

pub returns : goal.returns
returns c = rw (trade_asked (behind c.args.book c.is_book.ensures c.if-not-is_book.false-raw) c.args.trade c.args.side, c.trade_price.ensures) (ap (λ (t : Levels). trade_price c.args.trade (levels t)) (rw (← c.walked.ensures) c.side.ensures))
