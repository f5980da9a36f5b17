-- `listings::write_at` meets its contract: the plan, held to the room, is written, and the asks follow the bids in the part that is lent on.
use Prim.Native.Nat.{ℕ, ◌≤◌}
use mathlib.Core.Path.{◌≡◌}
use mathlib.Core.List.{List}
use Rattle.types.specs.Replies.{Reply}
use Rattle.types.specs.Written.{fitted}
use Rattle.orderbook.specs.declared.OrderBook.{OrderBook}
use Rattle.listings.specs.declared.plan.Plan.{Plan}
use Rattle.listings.specs.Inner.Plans.{places_of, in_room, Plans}
use Rattle.listings.proofs.Plans.{room_plans, room_taken, plan-written}
use Rattle.listings.proofs.write_at.Goals as goal

-- the plan q is p, held to the room
module _ (ns : Reply (List ℕ)) (b : OrderBook) (p q : Plan) (room : ℕ) (w : Plans ns b p) (e : q ≡ in_room room p) where
  held : Plans (fitted room ns) b q
  held = rw e (room_plans room ns b p w)

  fits : places_of q.bids q.asks ≤ room
  fits = room_taken room ns b q held

pub returns : goal.returns
returns c =
    let w = held _ _ _ _ _ c.plan_of.ensures c.in_room-plan.ensures in
    plan-written _ _ c.in_room-plan.result c.args.out.now _ _ w c.write.ensures c.write-2.ensures
