-- `receiver::rows::take_delta` meets its contract: the turn is that of the state and of the delta's number.
use Prim.Native.Nat.{◌+◌}
use mathlib.Core.Path.{◌≡◌, sym, ◌∙◌}
use native.Mathlib.Omega.{arith}
use Rattle.orderbook.specs.Apply.{applied}
use Rattle.receiver.specs.declared.State.TheVariants.{Live}
use Rattle.receiver.specs.Lent.{receiver_at}
use Rattle.receiver.specs.Turns.{held}
use Rattle.receiver.proofs.Turns.{next_admitted, waiting-turn, old_turn, next-turn, next_any, gap-turn}
use Rattle.receiver.proofs.rows.take_delta.Goals as goal

pub take_next-requires : goal.take_next-requires
take_next-requires c =
    let a = c.args in
    let r = receiver_at a.bp.now a.bq.now a.ap.now a.aq.now a.state a.counts in
    let next : a.delta.sequence ≡ held r + 1 = omega arith in
    (c.requires.0, c.requires.1, next_admitted r a.delta c.requires.2 (omega (arith, next)) next)
