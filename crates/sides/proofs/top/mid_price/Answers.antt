-- `sides::top::mid_price` meets its contract: the sum over 2, else 10.
use mathlib.Core.Path.{sym}
use native.Mathlib.Omega.{arith}
use Rattle.quotient.proofs.Overs.{over_some}
use Rattle.sides.specs.Questions.{mid_of}
use Rattle.sides.proofs.Bests.{quoted}
use Rattle.sides.proofs.top.mid_price.Goals as goal

pub returns : goal.returns
returns c = rw (c.over.ensures, c.of.ensures, over_some _ 2 (λ e. omega arith)) (sym (quoted mid_of _ _ _ c.in_ok-bid.ensures))
