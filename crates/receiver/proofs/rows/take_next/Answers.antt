-- `receiver::rows::take_next` meets its contract: the turn of a delta that the book refuses is that of a gap.
use mathlib.Core.Path.{refl}
use Rattle.orderbook.specs.Lent.{book_at}
use Rattle.receiver.specs.declared.State.TheVariants.{Live}
use Rattle.receiver.specs.Lent.{receiver_at}
use Rattle.std.specs.Prelude.{Err}
use Rattle.receiver.proofs.Turns.{refused-turn}
use Rattle.receiver.proofs.rows.take_next.Goals as goal

pub returns-in-Err : goal.returns-in-Err
returns-in-Err c =
    let a = c.args in
    refused-turn (receiver_at a.bp.now a.bq.now a.ap.now a.aq.now Live a.counts) a.delta refl _ (Err c.in-Err.field-0) c.in-Err.ensures _ refl
