-- `kinds::side_number` meets its contract: the side is handed on, and 1 answers of a record that is no book.
use mathlib.Core.Path.{sym, ap}
use Rattle.levels.specs.declared.Levels.{Levels}
use Rattle.levels.specs.Table.{levels}
use Rattle.asked.specs.Inner.Kinds.{side_number}
use Rattle.types.proofs.Booleans.{failed}
use Rattle.orderbook.proofs.Books.{behind, lent_side}
use Rattle.questions.proofs.Asks.{side_none, side_asked}
use Rattle.questions.proofs.kinds.side_number.Goals as goal

pub returns-then-not-is_book : goal.returns-then-not-is_book
returns-then-not-is_book c = sym (side_none _ (failed c.is_book.ensures c.if-not-is_book.true-raw) c.args.side c.args.question)

pub side_number-requires : goal.side_number-requires
side_number-requires c = lent_side (behind c.args.book c.is_book.ensures c.if-not-is_book.false-raw) _ c.side.result c.side.ensures

pub returns : goal.returns
returns c = rw (side_asked (behind c.args.book c.is_book.ensures c.if-not-is_book.false-raw) c.args.side c.args.question, c.side_number.ensures) (ap (λ (t : Levels). side_number c.args.side c.args.question (levels t)) c.side.ensures)
