-- What a place says of the prices that it was found among: how many come before the price, with it or without.
use Rattle.std.specs.Prelude.{ℕ, ◌+◌, ◌≡◌, refl, [], ◌∷◌}
use Rattle.types.specs.declared.Side.TheVariants.{Bid, Ask}
use Rattle.levels.specs.Order.{place_from}
use Rattle.levels.specs.declared.Place.{Place}
use Rattle.levels.specs.declared.Place.TheVariants.{At, Before}

-- how many prices are ahead of the price
abbrev pub ahead_in : Place → ℕ
ahead_in (At i) = i
ahead_in (Before i) = i

-- how many are at the price or ahead of it
abbrev pub reached_in : Place → ℕ
reached_in (At i) = i + 1
reached_in (Before i) = i

-- of a bid that is there, and of an ask that is not
pub places :
    (ahead_in (place_from Bid 99 0 (100 ∷ 99 ∷ 98 ∷ [])) ≡ 1) ×
    (reached_in (place_from Bid 99 0 (100 ∷ 99 ∷ 98 ∷ [])) ≡ 2) ×
    (ahead_in (place_from Ask 102 0 (101 ∷ 103 ∷ [])) ≡ 1) ×
    (reached_in (place_from Ask 102 0 (101 ∷ 103 ∷ [])) ≡ 1)
unfolding place_from
places = (refl, refl, refl, refl)
