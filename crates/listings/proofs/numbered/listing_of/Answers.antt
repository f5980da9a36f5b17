-- `numbered::listing_of` meets its contract: each number has its place among the listings, and those past the last place name none.
use Prim.Native.Nat.{◌≤◌}
use native.Mathlib.Omega.{arith}
use mathlib.Core.Path.{sym}
use mathlib.Core.List.{[], map}
use lib.ListN.{get_or-eq_default}
use Rattle.types.specs.Replies.{done, refused}
use Rattle.listings.specs.Numbered.{listings, listing_named}
use Rattle.listings.proofs.numbered.listing_of.Goals as goal

pub returns-in_default : goal.returns-in_default
unfolding listing_named
returns-in_default c = let a = c.args in
    let past : 3 ≤ a.number = omega arith in
    sym (get_or-eq_default (map done (listings a.side a.from a.to)) (refused 2 []) {n = a.number} past)

pub returns-in-0 : goal.returns-in-0
unfolding listing_named
returns-in-0 c = rw c.in-0.is

pub returns-in-1 : goal.returns-in-1
unfolding listing_named
returns-in-1 c = rw c.in-1.is

pub returns-in-2 : goal.returns-in-2
unfolding listing_named
returns-in-2 c = rw (c.in-2.is, c.narrowed.ensures)
