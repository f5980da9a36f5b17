-- `numbered::remove_all` meets its contract: the side is emptied if its number names one.
use mathlib.Core.Path.{ap, ◌∙◌}
use Rattle.types.specs.Replies.{refuse}
use Rattle.told.specs.Numbers.{tell, nothing}
use Rattle.orderbook.specs.declared.OrderBook.{OrderBook}
use Rattle.orderbook.specs.Book.{of_book}
use Rattle.numbered.specs.Books.{book_told, cleared_by}
use Rattle.numbered.proofs.Named.{changed, unchanged}
use Rattle.numbered.proofs.remove_all.Goals as goal

pub returns-in-Ok : goal.returns-in-Ok
unfolding cleared_by
returns-in-Ok c = rw c.given.ensures (ap book_told (c.remove_all-outcome.ensures ∙ changed _ _ _ _ c.in-Ok.ensures))

pub returns-in-Err : goal.returns-in-Err
unfolding cleared_by
returns-in-Err c = rw (c.refused.ensures ∙ ap (λ (b : OrderBook). tell nothing (of_book b (refuse c.in-Err.why))) c.of.ensures) (unchanged _ _ _ c.in-Err.why c.in-Err.ensures)
