-- `numbered::ask` meets its contract: the book answers the question that the numbers name.
use mathlib.Core.Path.{ap, ◌∙◌}
use Rattle.told.specs.Numbers.{tell}
use Rattle.orderbook.specs.Lent.{book_in}
use Rattle.questions.specs.Asked.{values_in}
use Rattle.numbered.specs.Books.{asked_by}
use Rattle.numbered.proofs.Named.{answered, unanswered}
use Rattle.numbered.proofs.ask.Goals as goal

pub returns-in-Ok : goal.returns-in-Ok
unfolding asked_by
returns-in-Ok c = c.of.ensures ∙ ap (tell values_in) (c.ask_at.ensures ∙ answered (book_in c.args.book) _ _ _ c.in-Ok.ensures)

pub returns-in-Err : goal.returns-in-Err
unfolding asked_by
returns-in-Err c = c.refused.ensures ∙ unanswered (book_in c.args.book) _ _ values_in c.in-Err.why c.in-Err.ensures
