-- `numbered::list` meets its contract: the book writes the listing that the numbers name.
use Prim.Native.Nat.{ℕ}
use mathlib.Core.Path.{ap, ◌∙◌}
use mathlib.Core.List.{List}
use Rattle.types.specs.Replies.{Reply}
use Rattle.types.specs.Written.{written}
use Rattle.orderbook.specs.Lent.{book_in}
use Rattle.numbered.specs.Books.{listed_by}
use Rattle.numbered.specs.Memory.{told_left}
use Rattle.numbered.proofs.Named.{answered, unwritten, left-told}
use Rattle.numbered.proofs.list.Goals as goal

pub returns-in-Ok : goal.returns-in-Ok
unfolding listed_by
returns-in-Ok c =
    left-told c.write_at.result _ _ _ c.of.ensures c.write_at.ensures
    ∙ ap (λ (x : Reply (List ℕ)). told_left (written x c.args.out.now)) (answered (book_in c.args.book) _ _ _ c.in-Ok.ensures)

pub returns-in-Err : goal.returns-in-Err
unfolding listed_by
returns-in-Err c = unwritten (book_in c.args.book) _ _ _ _ c.in-Err.why c.in-Err.ensures c.refused.ensures
