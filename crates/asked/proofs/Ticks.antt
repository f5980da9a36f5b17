-- The smallest gap between neighbours on either side.
use Prim.Native.Nat.{ℕ, ◌+◌, ◌-◌, ◌≤◌, ◌<◌}
use native.Mathlib.Omega.{arith}
use mathlib.Core.Path.{◌≡◌, ap, ◌∙◌}
use mathlib.Core.Bool.{true}
use mathlib.Core.List.{List, [], ◌++◌}
use lib.Dec.{leb}
use lib.ListN.{length, take, length-append}
use lib.Seq.{length-take-le}
use Rattle.types.specs.Limits.{max_levels, max_price}
use Rattle.types.specs.Replies.{done, refused}
use Rattle.levels.specs.declared.Levels.{Levels}
use Rattle.levels.specs.Formed.{every, in_limits}
use Rattle.levels.specs.Table.{levels}
use Rattle.levels.specs.Lent.{levels_in}
use Rattle.levels.specs.declared.lent.SideRows.{SideRows}
use Rattle.walks.specs.Walk.{gaps_of, least_from, least_of}
use Rattle.walks.proofs.Gaps.{every-both, gaps_bound, gaps_length, gaps_none, least_append, least_of_lem, prices_bound}
use Rattle.levels.proofs.Tables.{Sized, levels-prices}
use Rattle.sides.specs.Inner.Limits.{OfBook, PricesFit}
use Rattle.sides.specs.Questions.{tick_size}

-- a row of 128 places whose first n hold at most the largest price
abbrev pub Fit : List ℕ → ℕ → Type 0
Fit xs n = (length xs ≡ max_levels) × (n ≤ max_levels) × (every (λ x. leb x max_price) (take n xs) ≡ true)

-- a side that is lent has rows of 128 places
pub fit : {r : SideRows} → PricesFit r → Fit r.prices.now r.count
fit {r} w = (r.long_prices, w.few, w.cheap)

module _ (p q : List ℕ) (n m : ℕ) (f : Fit p n) (g : Fit q m) where
  -- no side has two levels
  pub tick_none : n < 2 → m < 2 → least_of (gaps_of (take n p) ++ gaps_of (take m q)) ≡ refused 10 []
  unfolding least_of
  tick_none h k =
      let i : length (take n p) ≡ n = length-take-le n p (omega arith) in
      let j : length (take m q) ≡ m = length-take-le m q (omega arith) in
      rw (gaps_none (take n p) (omega arith), gaps_none (take m q) (omega arith))

  -- the gaps of the one side, and then those of the other
  pub tick_some : 0 < (n - 1) + (m - 1) → least_of (gaps_of (take n p) ++ gaps_of (take m q)) ≡ done (least_from (least_from max_price (gaps_of (take n p))) (gaps_of (take m q)))
  tick_some h =
      let i : length (take n p) ≡ n = length-take-le n p (omega arith) in
      let j : length (take m q) ≡ m = length-take-le m q (omega arith) in
      let some : 1 ≤ length (gaps_of (take n p) ++ gaps_of (take m q)) = simp length-append (omega (arith, gaps_length (take n p), gaps_length (take m q))) in
      let few = every-both (λ x. leb x max_price) _ _ (gaps_bound max_price (take n p) f.2) (gaps_bound max_price (take m q) g.2) in
      least_of_lem max_price _ some few ∙ ap done (least_append max_price (gaps_of (take n p)) (gaps_of (take m q)))

-- the prices of a table within the limits
pub table_fits : (t : Levels) → Sized t → t.count ≤ max_levels → every in_limits (levels t) ≡ true → Fit t.prices t.count
table_fits t w n h = (w.ps, n, rw (levels-prices t w n) at (prices_bound (levels t) h))

-- what is asked of two tables is asked of their rows of prices
pub tick_levels : (b a : Levels) → Sized b → Sized a → b.count ≤ max_levels → a.count ≤ max_levels → tick_size (levels b) (levels a) ≡ least_of (gaps_of (take b.count b.prices) ++ gaps_of (take a.count a.prices))
tick_levels b a v w n m = rw (levels-prices b v n, levels-prices a w m)

-- the same of a side that is lent
lent_sized : (r : SideRows) → Sized (levels_in r)
lent_sized r = record { ps = r.long_prices; qs = r.long_quantities }

pub prices_fit : {r : SideRows} → OfBook r → PricesFit r
prices_fit {r} k = let w = table_fits (levels_in r) (lent_sized r) k.few k.limits in record { few = w.1; cheap = w.2 }

-- and of two
pub tick_lent : {b a : SideRows} → OfBook b → OfBook a → tick_size (levels (levels_in b)) (levels (levels_in a)) ≡ least_of (gaps_of (take b.count b.prices.now) ++ gaps_of (take a.count a.prices.now))
tick_lent {b} {a} k l = tick_levels (levels_in b) (levels_in a) (lent_sized b) (lent_sized a) k.few l.few
