-- One price: for any quantity above zero that a side's levels can fill, the price of trading it is one definition, by either path.
-- vwap_for_qty walks the side it names and price_impact the other, so both are asked here of the levels that they walk.
use Rattle.std.specs.Prelude.{ℕ, ◌≤◌, ◌<◌, ◌≡◌, List, [], ◌∷◌, pos}
use Rattle.std.proofs.Common.{arith, sym, ◌∙◌}
use borrow.Author.Tests.{ne_eqb, le-leb, lt-leb}
use Rattle.types.specs.Limits.{max_quantity}
use Rattle.types.specs.Replies.{done, refused}
use Rattle.types.specs.declared.PriceLevel.{PriceLevel}
use Rattle.walks.specs.Walk.{total_of}
use Rattle.sides.specs.Questions.{price_of, vwap_of, impact_of}

module _ (target : ℕ) (ls : List PriceLevel) (some : 0 < target) (limit : target ≤ max_quantity) where
  -- where the levels can fill the target, each answers its price: the cost of filling it best first, over the target
  pub one-price : target ≤ total_of ls → (vwap_of target ls ≡ done (price_of target ls)) × (impact_of target ls ≡ done (price_of target ls))
  unfolding vwap_of impact_of
  one-price h = let t = ne_eqb target 0 (λ e. omega arith) in let e = le-leb _ _ limit in let f = le-leb _ _ h in (rw (e, t, f), rw (e, t, f))

  -- so the two are equal
  pub same-price : target ≤ total_of ls → vwap_of target ls ≡ impact_of target ls
  same-price h = (one-price h).0 ∙ sym (one-price h).1

  -- where they cannot, vwap_for_qty is refused 7 with the target, and price_impact 10
  pub no_price : total_of ls < target → (vwap_of target ls ≡ refused 7 (pos target ∷ [])) × (impact_of target ls ≡ refused 10 [])
  unfolding vwap_of impact_of
  no_price h = let t = ne_eqb target 0 (λ e. omega arith) in let e = le-leb _ _ limit in let f = lt-leb _ _ h in (rw (e, t, f), rw (e, t, f))
