-- Which of two prices comes first on a side, and where a price stands among others.
use Rattle.std.specs.Prelude.{ℕ, suc, ◌+◌, Bool, true, cond, ◌&&◌, List, [], ◌∷◌, eqb, ltb}
use Rattle.types.specs.declared.Side.{Side}
use Rattle.types.specs.declared.Side.TheVariants.{Bid, Ask}
use Rattle.levels.specs.declared.Place.{Place}
use Rattle.levels.specs.declared.Place.TheVariants.{At, Before}

-- the higher bid and the lower ask come first
abbrev pub ahead_of : Side → ℕ → ℕ → Bool
ahead_of Bid a b = ltb b a
ahead_of Ask a b = ltb a b

-- the price is ahead of the next, if there is one
unfoldable pub leads : Side → ℕ → List ℕ → Bool
leads s x [] = true
leads s x (y ∷ ys) = ahead_of s x y

-- bids strictly fall and asks strictly rise: each price is ahead of the next
unfoldable pub in_order : Side → List ℕ → Bool
in_order s [] = true
in_order s (x ∷ xs) = leads s x xs && in_order s xs

-- 1 for a price ahead of the next, 0 for one that is not or has none
unfoldable pub step_to : Side → ℕ → List ℕ → ℕ
step_to s x [] = 0
step_to s x (y ∷ ys) = cond (ahead_of s x y) 1 0

-- how many of the prices are ahead of the next
unfoldable pub steps : Side → List ℕ → ℕ
steps s [] = 0
steps s (x ∷ xs) = step_to s x xs + steps s xs

-- how many of the prices are ahead of p
unfoldable pub count_ahead : Side → ℕ → List ℕ → ℕ
count_ahead s p [] = 0
count_ahead s p (x ∷ xs) = cond (ahead_of s x p) (suc (count_ahead s p xs)) (count_ahead s p xs)

-- where p stands among prices in order, or before which it belongs; i is the place of the first
unfoldable pub place_from : Side → ℕ → ℕ → List ℕ → Place
place_from s p i [] = Before i
place_from s p i (x ∷ xs) = cond (eqb x p) (At i) (cond (ahead_of s x p) (place_from s p (i + 1) xs) (Before i))
