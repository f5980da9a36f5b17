-- `are_prices`: the numbers are 32, and each is within the prices' limit.
use Rattle.std.proofs.Common.{leb, ◌∙◌, eq-eqb, ne_eqb}
use Rattle.types.specs.Limits.{max_price}
use Rattle.pricing.specs.Prices.{are_prices}
use Rattle.pricing.proofs.Listed.{all_listed}
use Rattle.pricing.proofs.are_prices.Goals as goal

pub returns-then-prices-eq32 : goal.returns-then-prices-eq32
unfolding are_prices
returns-then-prices-eq32 c =
    rw (eq-eqb _ _ c.if-prices-eq32.true) (c.are_within.ensures ∙ all_listed (λ x. leb x max_price) c.args.prices.now 32 c.if-prices-eq32.true)

pub returns-else-prices-eq32 : goal.returns-else-prices-eq32
unfolding are_prices
returns-else-prices-eq32 c = rw (ne_eqb _ _ c.if-prices-eq32.false)
