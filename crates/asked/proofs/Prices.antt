-- The price of trading a target and the price reached at a volume: how large the cost gets, and each test that can refuse a volume.
use Rattle.std.specs.Prelude.{Ok, None}
use Rattle.std.specs.Option.{ok_or}
use Prim.Native.Nat.{ℕ, ◌≤◌, ◌<◌}
use native.Mathlib.Omega.{arith}
use mathlib.Core.Path.{◌≡◌}
use mathlib.Core.Bool.{true, false}
use mathlib.Core.List.{List, []}
use lib.Dec.{leb}
use lib.ListN.{length}
use borrow.Author.Tests.{ne_eqb, le-leb, lt-leb}
use Rattle.types.specs.Limits.{max_quantity, max_volume}
use Rattle.types.specs.Replies.{done, refused}
use Rattle.types.specs.declared.PriceLevel.{PriceLevel}
use Rattle.types.specs.declared.Refusal.{Refusal}
use Rattle.types.proofs.Booleans.{by}
use Rattle.levels.specs.Formed.{every, in_limits}
use Rattle.walks.specs.Walk.{total_of, cost_of, fill_of, reach_from}
use Rattle.walks.proofs.Walks.{cost_limit}
use Rattle.sides.specs.Questions.{volume_price_of}

module _ (target : ℕ) (ls : List PriceLevel) where
  -- a target is filled only if the levels hold so much, at its cost
  pub filled : (why : Refusal) (cost : ℕ) → Ok cost ≡ ok_or (fill_of target ls) why → (leb target (total_of ls) ≡ true) × (cost ≡ cost_of target ls)
  filled why cost e =
      by (leb target (total_of ls)) (λ t. let f = rw t at e in (t, cc))
      (λ t. let f = rw t at e in let z : ◌≡◌ {A = ℕ} 0 1 = cc in absurd (omega arith))

  -- a target that is not filled is more than the levels hold
  pub unfilled : fill_of target ls ≡ None → leb target (total_of ls) ≡ false
  unfilled e = by (leb target (total_of ls)) (λ t. let f = rw t at e in let z : ◌≡◌ {A = ℕ} 0 1 = cc in absurd (omega arith)) (λ t. t)

  -- the cost fits an i64
  pub cost_small : every in_limits ls ≡ true → target ≤ max_quantity → cost_of target ls < 9223372036854775808
  cost_small h k = omega (arith, cost_limit ls h target)

  -- outside the limits
  pub volume_limit : max_volume < target → volume_price_of target ls ≡ refused 2 []
  unfolding volume_price_of
  volume_limit h = rw (lt-leb _ _ h)

  -- the price reached
  pub volume_empty : target ≤ max_volume → length ls ≡ 0 → volume_price_of target ls ≡ refused 10 []
  unfolding volume_price_of
  volume_empty h e = rw (le-leb _ _ h, e)

  pub volume_zero : (length ls ≡ 0 → ⊥) → target ≡ 0 → volume_price_of target ls ≡ refused 10 []
  unfolding volume_price_of
  volume_zero n e = rw (e, ne_eqb _ _ n)

  pub volume_reached : target ≤ max_volume → (length ls ≡ 0 → ⊥) → (target ≡ 0 → ⊥) → volume_price_of target ls ≡ done (reach_from 0 target ls)
  unfolding volume_price_of
  volume_reached h n t = rw (le-leb _ _ h, ne_eqb _ _ n, ne_eqb _ _ t)
