-- `listings::list` meets its contract: as many places are handed back as the writer filled.
use Rattle.listings.specs.Listed.{numbers_of}
use Rattle.listings.proofs.Fronts.{places_fit, front_is}
use Rattle.listings.proofs.list.Goals as goal

pub front-requires : goal.front-requires
front-requires c = places_fit (numbers_of c.args.listing c.args.book) c.args.out.now _ _ c.write-answer.ensures

pub returns : goal.returns
returns c = (c.front.ensures.0, rw c.front.ensures.1 (front_is (numbers_of c.args.listing c.args.book) c.args.out.now _ _ c.write-answer.ensures))
