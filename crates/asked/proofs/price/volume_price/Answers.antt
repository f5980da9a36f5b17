-- `asked::price::volume_price` meets its contract: one law for each answer.
use native.Mathlib.Omega.{arith}
use mathlib.Core.Path.{sym, ◌∙◌}
use Rattle.sides.proofs.Volumes.{limited, counted}
use Rattle.asked.proofs.Prices.{volume_empty, volume_zero, volume_reached}
use Rattle.asked.proofs.price.volume_price.Goals as goal
use Rattle.asked.proofs.price.volume_price.Goals.{then-lent-eq0-via-then-lent-eq0, then-lent-eq0-via-else-lent-eq0+then-target-eq0}

pub returns-then-lent-eq0 : goal.returns-then-lent-eq0
returns-then-lent-eq0 c = let there = counted _ _ _ (limited c.requires) in
    elim c.then-lent-eq0.branch [
      | then-lent-eq0-via-then-lent-eq0 w ↦ sym (volume_empty _ _ (omega arith) (there ∙ w.if-lent-eq0.true))
      | then-lent-eq0-via-else-lent-eq0+then-target-eq0 w ↦ sym (volume_zero _ _ (λ e. w.if-lent-eq0.false (sym there ∙ e)) w.if-target-eq0.true)
    ]

pub returns : goal.returns
returns c = let there = counted _ _ _ (limited c.requires) in
    rw c.reach.ensures (sym (volume_reached _ _ (omega arith) (λ e. c.if-lent-eq0.false (sym there ∙ e)) c.if-target-eq0.false))
