-- What is asked of a side's levels, best first: quantities, costs, prices reached, gaps.
use Rattle.std.specs.Prelude.{ℕ, ◌+◌, ◌-◌, ◌*◌, min, Bool, true, false, cond, Option, Some, None, List, [], ◌∷◌, leb, eqb}
use Rattle.types.specs.Replies.{Reply, done, refused}
use Rattle.types.specs.declared.Side.{Side}
use Rattle.types.specs.declared.PriceLevel.{PriceLevel}
use Rattle.levels.specs.Order.{ahead_of}
use Rattle.levels.specs.Table.{quantities_of}

-- the numbers added up
unfoldable pub sum_of : List ℕ → ℕ
sum_of [] = 0
sum_of (x ∷ xs) = x + sum_of xs

-- the quantity of all the levels together
abbrev pub total_of : List PriceLevel → ℕ
total_of ls = sum_of (quantities_of ls)

-- the levels at the price or ahead of it
unfoldable pub up_to : Side → ℕ → List PriceLevel → List PriceLevel
up_to s p [] = []
up_to s p (l ∷ ls) = cond (ahead_of s p l.price) (up_to s p ls) (l ∷ up_to s p ls)

-- the cost of filling the target best first, as far as the levels reach
unfoldable pub cost_of : ℕ → List PriceLevel → ℕ
cost_of target [] = 0
cost_of target (l ∷ ls) = cond (leb target l.quantity) (l.price * target) (l.price * l.quantity + cost_of (target - l.quantity) ls)

-- the cost of filling the target best first, or that the levels hold too little
abbrev pub fill_of : ℕ → List PriceLevel → Option ℕ
fill_of target ls = cond (leb target (total_of ls)) (Some (cost_of target ls)) None

-- the price of the first level at which the running total reaches the target, else the last level's; `last` if there is none
unfoldable pub reach_from : ℕ → ℕ → List PriceLevel → ℕ
reach_from last target [] = last
reach_from last target (l ∷ ls) = cond (leb target l.quantity) l.price (reach_from l.price (target - l.quantity) ls)

-- whether one of the levels has the price
unfoldable pub has : ℕ → List PriceLevel → Bool
has p [] = false
has p (l ∷ ls) = cond (eqb l.price p) true (has p ls)

-- the quantity at a price, or 10
unfoldable pub depth_of : ℕ → List PriceLevel → Reply ℕ
depth_of p [] = refused 10 []
depth_of p (l ∷ ls) = cond (eqb l.price p) (done l.quantity) (depth_of p ls)

-- how far two prices lie from each other
abbrev pub distance : ℕ → ℕ → ℕ
distance a b = (a - b) + (b - a)

-- how far each price lies from the next
unfoldable pub gaps_from : ℕ → List ℕ → List ℕ
gaps_from x [] = []
gaps_from x (y ∷ ys) = distance x y ∷ gaps_from y ys

-- the gaps between neighbours
unfoldable pub gaps_of : List ℕ → List ℕ
gaps_of [] = []
gaps_of (x ∷ xs) = gaps_from x xs

-- the smallest of m and the numbers
unfoldable pub least_from : ℕ → List ℕ → ℕ
least_from m [] = m
least_from m (x ∷ xs) = least_from (min m x) xs

-- the smallest of the numbers, or 10 if there are none
unfoldable pub least_of : List ℕ → Reply ℕ
least_of [] = refused 10 []
least_of (x ∷ xs) = done (least_from x xs)
