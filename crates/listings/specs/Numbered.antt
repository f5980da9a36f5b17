-- The listings by their numbers.
use Rattle.std.specs.Prelude.{ℕ, cond, List, [], ◌∷◌, map, ltb, get_or}
use Rattle.types.specs.Replies.{Reply, done, refused}
use Rattle.types.specs.declared.Side.{Side}
use Rattle.listings.specs.declared.Listing.{Listing}
use Rattle.listings.specs.declared.Listing.TheVariants.{Top, Snapshot, Between}

-- a number that fits no price becomes 0, which is none either
abbrev pub narrowed : ℕ → ℕ
narrowed n = cond (ltb 4294967295 n) 0 n

-- the listings in their order, from 0 to 2; `from` is a count, or the lower price of a range up to `to`
abbrev pub listings : Side → ℕ → ℕ → List Listing
listings s from to = Top s from ∷ Snapshot from ∷ Between s (narrowed from) to ∷ []

-- the listing of a number, or 2 if it names none
unfoldable pub listing_named : ℕ → Side → ℕ → ℕ → Reply Listing
listing_named n s from to = get_or (map done (listings s from to)) n (refused 2 [])
