-- `numbered::apply_delta` meets its contract: the rows take the delta that the numbers name.
use mathlib.Core.Path.{ap, ◌∙◌}
use Rattle.types.specs.Replies.{refuse}
use Rattle.told.specs.Numbers.{tell, nothing}
use Rattle.orderbook.specs.declared.OrderBook.{OrderBook}
use Rattle.orderbook.specs.Book.{of_book}
use Rattle.numbered.specs.Books.{book_told, applied_by}
use Rattle.numbered.proofs.Named.{changed, unchanged}
use Rattle.numbered.proofs.apply_delta.Goals as goal

pub returns-in-Ok : goal.returns-in-Ok
unfolding applied_by
returns-in-Ok c = rw c.given.ensures (ap book_told (c.apply_delta-outcome.ensures ∙ changed _ _ _ _ c.in-Ok.ensures))

pub returns-in-Err : goal.returns-in-Err
unfolding applied_by
returns-in-Err c = rw (c.refused.ensures ∙ ap (λ (b : OrderBook). tell nothing (of_book b (refuse c.in-Err.why))) c.of.ensures) (unchanged _ _ _ c.in-Err.why c.in-Err.ensures)
