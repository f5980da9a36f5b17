-- `list` meets its contract: as many places are handed back as the writer filled.
use Rattle.listings.proofs.Fronts.{places_fit, front_is}
use Rattle.receiver_questions.specs.Gate.{receiver_numbers}
use Rattle.receiver_questions.proofs.list.Goals as goal

pub front-requires : goal.front-requires
front-requires c = places_fit (receiver_numbers c.args.listing c.args.receiver) c.args.out.now _ _ c.write-answer.ensures

pub returns : goal.returns
returns c = (c.front.ensures.0, rw c.front.ensures.1 (front_is (receiver_numbers c.args.listing c.args.receiver) c.args.out.now _ _ c.write-answer.ensures))
