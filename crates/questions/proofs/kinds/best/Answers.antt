-- `kinds::best` meets its contract: the side's best level answers, and 1 of a record that is no book.
use mathlib.Core.Path.{ap}
use Rattle.levels.specs.declared.Levels.{Levels}
use Rattle.levels.specs.Table.{levels}
use Rattle.sides.specs.Best.{best_of}
use Rattle.sides.specs.Questions.{best_level}
use Rattle.types.proofs.Booleans.{failed}
use Rattle.questions.specs.Questions.{best}
use Rattle.orderbook.proofs.Books.{behind, lent_side}
use Rattle.questions.proofs.kinds.best.Goals as goal

pub returns-then-not-is_book : goal.returns-then-not-is_book
unfolding best
returns-then-not-is_book c = rw (failed c.is_book.ensures c.if-not-is_book.true-raw)

pub best_of-requires : goal.best_of-requires
best_of-requires c = (lent_side (behind c.args.book c.is_book.ensures c.if-not-is_book.false-raw) _ c.side.result c.side.ensures).known.few

pub returns : goal.returns
unfolding best
returns c = rw ((behind c.args.book c.is_book.ensures c.if-not-is_book.false-raw).is, c.best_level.ensures, c.best_of.ensures) (ap (λ (t : Levels). best_level (best_of (levels t))) c.side.ensures)
