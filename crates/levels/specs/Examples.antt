-- The definitions at work on book K's sides and on a full side, by computation.
use Rattle.std.specs.Prelude.{ℕ, zero, suc, ◌-◌, ◌≡◌, refl, true, false, List, [], ◌∷◌, length}
use Rattle.types.specs.declared.Side.TheVariants.{Bid, Ask}
use Rattle.types.specs.declared.PriceLevel.{PriceLevel}
use Rattle.levels.specs.Order.{leads, in_order}
use Rattle.levels.specs.Table.{level, levels, table}
use Rattle.levels.specs.Formed.{every, well_formed}
use Rattle.levels.specs.Change.{set_level, remove_level}

-- book K's bids
unfoldable pub bids : List PriceLevel
bids = level 100 5 ∷ level 99 0 ∷ level 98 10 ∷ []

-- book K's asks
unfoldable pub asks : List PriceLevel
asks = level 101 4 ∷ level 103 6 ∷ []

-- n bids of 3 lots each, from p downwards
unfoldable pub falling : ℕ → ℕ → List PriceLevel
falling zero p = []
falling (suc n) p = level p 3 ∷ falling n (p - 1)

-- a full side: bids at 1000, 999 and so on, 128 of them
unfoldable pub full : List PriceLevel
full = falling 128 1000

-- K's sides and the full one are well formed; bids are no asks
pub formed : (well_formed Bid (table bids) ≡ true) × (well_formed Ask (table asks) ≡ true) × (well_formed Ask (table bids) ≡ false) × (well_formed Bid (table full) ≡ true)
unfolding bids asks falling full leads in_order every well_formed
formed = (refl, refl, refl, refl)

-- a table gives its levels back, and they give the table
pub back : (levels (table bids) ≡ bids) × (levels (table asks) ≡ asks) × (levels (table full) ≡ full) × (table (levels (table full)) ≡ table full)
unfolding bids asks falling full
back = (refl, refl, refl, refl)

-- Set of a new price, over a price, and of quantity 0, which stays
pub set-levels :
    (set_level Bid (level 101 2) bids ≡ level 101 2 ∷ bids) ×
    (set_level Ask (level 102 0) asks ≡ level 101 4 ∷ level 102 0 ∷ level 103 6 ∷ []) ×
    (set_level Bid (level 99 7) bids ≡ level 100 5 ∷ level 99 7 ∷ level 98 10 ∷ []) ×
    (set_level Bid (level 100 0) bids ≡ level 100 0 ∷ level 99 0 ∷ level 98 10 ∷ []) ×
    (length (set_level Bid (level 2000 1) full) ≡ 129)
unfolding bids asks falling full set_level
set-levels = (refl, refl, refl, refl, refl)

-- Remove of a price that is there, and of one that is not
pub removed : (remove_level 99 bids ≡ level 100 5 ∷ level 98 10 ∷ []) × (remove_level 102 asks ≡ asks) × (length (remove_level 873 full) ≡ 127)
unfolding bids asks falling full remove_level
removed = (refl, refl, refl)
