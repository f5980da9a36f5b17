-- What the search of a price among a side's rows says of the side's levels.
use Prim.Native.Nat.{ℕ, ◌<◌}
use native.Mathlib.Omega.{arith}
use mathlib.Core.Path.{◌≡◌, ap, ◌∙◌}
use mathlib.Core.Bool.{true, false}
use mathlib.Core.List.{List, []}
use lib.ListN.{length, take, get_or, length-take}
use lib.Seq.{get_or-take, take-take}
use Rattle.types.specs.Replies.{done, refused}
use Rattle.types.specs.declared.Side.{Side}
use Rattle.levels.specs.declared.Place.TheVariants.{At, Before}
use Rattle.levels.specs.Order.{in_order, place_from}
use Rattle.levels.specs.Inner.Found.{reached_in}
use Rattle.levels.specs.Table.{prices_of, levels, rows}
use Rattle.walks.specs.Walk.{sum_of, total_of, up_to, depth_of, has}
use Rattle.walks.proofs.Turns.{Lent}
use Rattle.levels.proofs.Tables.{levels-prices}
use Rattle.levels.proofs.Places.{InList, place_in}
use Rattle.levels.proofs.Found.{reached_few}
use Rattle.walks.proofs.Walks.{quantities_rows, total-best}
use Rattle.walks.proofs.Depths as depths
use Rattle.levels.specs.declared.lent.SideRows.{SideRows}
use Rattle.sides.specs.Inner.Limits.{OfBook}

-- a side's rows are lent as the walks ask for them
pub lent : {r : SideRows} → OfBook r → Lent r.prices.now r.quantities.now r.count
lent {r} k = (r.long_prices, r.long_quantities, k.few)

-- a price that is found stands at one of the first n places
pub found_in : (s : Side) (p : List ℕ) (n price i : ℕ) → place_from s price 0 (take n p) ≡ At i → i < n
found_in s p n price i e =
    let h : InList (At i) (length (take n p)) = rw e at (place_in s price (take n p)) in
    omega (arith, length-take n p)

module _ (s : Side) (p q : List ℕ) (n : ℕ) (w : Lent p q n) (price : ℕ) where
  prices_are : prices_of (levels (rows p q n)) ≡ take n p
  prices_are = levels-prices (rows p q n) (record { ps = w.0; qs = w.1 }) w.2

  pub found_depth : (i : ℕ) → place_from s price 0 (take n p) ≡ At i → depth_of price (levels (rows p q n)) ≡ done (get_or q i 0)
  found_depth i e =
      let f : place_from s price 0 (prices_of (levels (rows p q n))) ≡ At i = rw prices_are e in
      let inside = found_in s p n price i e in
      depths.depth_at_lem s price i (levels (rows p q n)) f ∙ rw (quantities_rows (rows p q n) w, get_or-take)

  pub found_has : (i : ℕ) → place_from s price 0 (take n p) ≡ At i → has price (levels (rows p q n)) ≡ true
  found_has i e = depths.has-at price s i (levels (rows p q n)) (rw prices_are e)

  module _ (i : ℕ) (o : in_order s (take n p) ≡ true) where
    pub absent_depth : place_from s price 0 (take n p) ≡ Before i → depth_of price (levels (rows p q n)) ≡ refused 10 []
    absent_depth e = depths.depth_before s price 0 i (levels (rows p q n)) (rw prices_are o) (rw prices_are e)

    pub absent_has : place_from s price 0 (take n p) ≡ Before i → has price (levels (rows p q n)) ≡ false
    absent_has e = depths.has-before price s i (levels (rows p q n)) (rw prices_are o) (rw prices_are e)

  -- up to the price is what stands at the places that it reaches
  pub reached_total : in_order s (take n p) ≡ true → total_of (up_to s price (levels (rows p q n))) ≡ sum_of (take (reached_in (place_from s price 0 (take n p))) q)
  reached_total o =
      let k = reached_in (place_from s price 0 (take n p)) in
      let ls = levels (rows p q n) in
      let f : up_to s price ls ≡ take k ls = rw prices_are at (depths.up_to_found s price ls (rw prices_are o)) in
      ap total_of f ∙ total-best (rows p q n) w k ∙ ap sum_of (take-take k n q (reached_few s price p n))
