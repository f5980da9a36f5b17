-- The quantity of a side's best levels, from the row of its quantities, and how large it gets.
use Prim.Native.Nat.{ℕ, ◌≤◌, min}
use native.Mathlib.Omega.{arith}
use mathlib.Core.Path.{◌≡◌, ap, sym, ◌∙◌}
use mathlib.Core.List.{List}
use lib.ListN.{length, take}
use lib.Seq.{take_all, take-take}
use Rattle.std.proofs.lemmas.List.{take_min}
use Rattle.types.specs.Limits.{max_volume}
use Rattle.levels.specs.Table.{levels, rows}
use Rattle.levels.proofs.Tables.{levels-length}
use Rattle.walks.specs.Walk.{sum_of, total_of}
use Rattle.walks.proofs.Walks.{sum-take, total-rows, total-best, total_limit}
use Rattle.levels.specs.declared.lent.SideRows.{SideRows}
use Rattle.sides.specs.Inner.Limits.{Limited, OfBook}
use Rattle.sides.specs.Questions.{best_total}

-- a side that is lent has rows of 128 places
pub limited : {r : SideRows} → OfBook r → Limited r.prices.now r.quantities.now r.count
limited {r} k = record { long_prices = r.long_prices; long_quantities = r.long_quantities; few = k.few; limits = k.limits }

module _ (p q : List ℕ) (n : ℕ) (w : Limited p q n) where
  -- there are as many levels as are counted
  pub counted : length (levels (rows p q n)) ≡ n
  counted = levels-length (rows p q n) (record { ps = w.long_prices; qs = w.long_quantities }) w.few

  -- the best of them that are enough are all of them
  pub all-best : (k : ℕ) → n ≤ k → best_total k (levels (rows p q n)) ≡ total_of (levels (rows p q n))
  all-best k h = rw (take_all k (levels (rows p q n)) (omega (arith, counted)))

  -- all of them: at most 128·10^9
  whole : sum_of (take n q) ≡ total_of (levels (rows p q n))
  whole = sym (total-rows (rows p q n) (w.long_prices, w.long_quantities, w.few))

  whole_small : sum_of (take n q) ≤ max_volume
  whole_small = omega (arith, whole, total_limit (levels (rows p q n)) w.limits (omega (arith, counted, w.few)))

  -- the best k of them, and all where there are fewer
  best_part : (k : ℕ) → k ≤ n → {r : ℕ} → r ≡ sum_of (take k q) → (r ≡ best_total k (levels (rows p q n))) × (r ≤ max_volume)
  best_part k h e =
      let d = ap sum_of (take-take k n q h) in
      (e ∙ sym (total-best (rows p q n) (w.long_prices, w.long_quantities, w.few) k ∙ d), omega (arith, sum-take k (take n q), whole_small))

  pub least_total : (k m : ℕ) → m ≡ min k n → {r : ℕ} → r ≡ sum_of (take m q) → (r ≡ best_total k (levels (rows p q n))) × (r ≤ max_volume)
  least_total k m h e = rw (sym (take_min k (levels (rows p q n))), counted, sym h) (best_part m (omega (arith, h)) e)
