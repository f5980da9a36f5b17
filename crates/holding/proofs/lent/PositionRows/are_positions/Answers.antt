-- `PositionRows::are_positions`: every position passed was within its limits.
use native.Mathlib.Omega.{arith}
use Prim.Native.Nat.{ℕ}
use mathlib.Core.Path.{◌≡◌, sym, subst, ◌∙◌}
use mathlib.Core.Bool.{true}
use Rattle.amount.specs.Sums.{all_to}
use Rattle.holding.specs.Holding.{is_position}
use Rattle.holding.specs.Lent.{position_in}
use Rattle.amount.proofs.Sums.{all_none, all_more, all-not}
use Rattle.holding.specs.Rows.{are_positions}
use Rattle.holding.proofs.lent.PositionRows.are_positions.Goals as goal

pub loop-i-init : goal.loop-i-init
loop-i-init c = all_none _

pub loop-i-preserved : goal.loop-i-preserved
loop-i-preserved c = rw (all_more _ c.loop-i.i, c.loop-i.invariant, ← c.at.ensures, ← c.is_position.ensures) c.if-not-is_position.false

pub returns-then-not-is_position : goal.returns-then-not-is_position
unfolding are_positions
returns-then-not-is_position c =
    let r = c.args.self in
    rw (r.long_quantities, r.long_averages, r.long_realized) (sym (all-not _ 32 c.loop-i.i (omega arith) (rw (← c.at.ensures) (sym c.is_position.ensures ∙ c.if-not-is_position.true))))

pub returns : goal.returns
unfolding are_positions
returns c =
    let r = c.args.self in
    let ends : c.loop-i.i ≡ 32 = omega arith in
    rw (r.long_quantities, r.long_averages, r.long_realized) (subst (λ (n : ℕ). true ≡ all_to (λ (i : ℕ). is_position (position_in r i)) n) ends (sym c.loop-i.invariant))
