-- `listings::places_at` meets its contract: the plan, held to the room, has the answer.
use Rattle.listings.proofs.Plans.{room_plans}
use Rattle.listings.proofs.places_at.Goals as goal

pub returns : goal.returns
returns c = rw c.in_room-plan.ensures (room_plans c.args.room _ _ c.plan_of.result c.plan_of.ensures).answer
