-- `measured`: lots times a difference are the difference of two products.
use Rattle.pricing.proofs.Measures.{profit_apart}
use Rattle.pricing.proofs.measured.Goals as goal

pub returns-in-Profit : goal.returns-in-Profit
returns-in-Profit c = rw (c.sub.ensures, c.times-worth.ensures, c.times.ensures, c.in-Profit.is, profit_apart)
