-- `numbered::places` meets its contract: the book answers for the listing that the numbers name.
use Prim.Native.Nat.{ℕ}
use mathlib.Core.Path.{ap, ◌∙◌}
use mathlib.Core.List.{List}
use lib.ListN.{length}
use Rattle.types.specs.Replies.{Reply, map_reply}
use Rattle.types.specs.Written.{fitted}
use Rattle.told.specs.Numbers.{tell, one_number}
use Rattle.orderbook.specs.Lent.{book_in}
use Rattle.numbered.specs.Books.{listed_by}
use Rattle.numbered.proofs.Named.{answered, unplaced}
use Rattle.numbered.proofs.places.Goals as goal

pub returns-in-Ok : goal.returns-in-Ok
unfolding listed_by
returns-in-Ok c =
    c.of.ensures ∙ ap (tell one_number) c.places_at.ensures
    ∙ ap (λ (x : Reply (List ℕ)). tell one_number (map_reply length (fitted c.args.room x))) (answered (book_in c.args.book) _ _ _ c.in-Ok.ensures)

pub returns-in-Err : goal.returns-in-Err
unfolding listed_by
returns-in-Err c = c.refused.ensures ∙ unplaced (book_in c.args.book) _ _ _ c.in-Err.why c.in-Err.ensures
