-- `asked::price::price_or` meets its contract: the walk's cost over the target, small since every price is within its limit, or the refusal.
use mathlib.Core.Path.{◌≡◌, ◌∙◌, ap}
use mathlib.Core.Bool.{true}
use native.Mathlib.Omega.{arith}
use lib.Dec.{leb}
use Rattle.std.specs.Option.{ok_or}
use Rattle.quotient.proofs.Overs.{over_some}
use Rattle.levels.specs.Table.{levels, rows}
use Rattle.walks.specs.Walk.{total_of, cost_of}
use Rattle.asked.proofs.Prices.{filled, cost_small}
use Rattle.asked.proofs.price.price_or.Goals as goal
use Rattle.asked.proofs.price.price_or.Goals.{In_ok-cost}

-- what the walk found
found : (c : In_ok-cost) → let ls = levels (rows c.args.lent.prices.now c.args.lent.quantities.now c.args.lent.count) in (leb c.args.target (total_of ls) ≡ true) × (c.in_ok-cost.cost ≡ cost_of c.args.target ls)
found c = filled _ _ _ _ (c.in_ok-cost.ensures.value ∙ ap (λ o. ok_or o c.args.short) c.fill.ensures)

pub of-requires : goal.of-requires
of-requires c = rw (found c).1 (cost_small _ _ c.requires.0.limits c.requires.2)

pub returns : goal.returns
returns c = let f = found c.before.before in rw (f.0, c.over.ensures, c.of.ensures, f.1, over_some _ c.args.target (λ e. omega (arith, c.requires.1)))
