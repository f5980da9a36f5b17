-- `deltas::admit` meets its contract: the tests stand in the definition's order.
use Prim.Native.Nat.{◌+◌}
use mathlib.Core.Path.{◌≡◌, sym, ◌∙◌}
use mathlib.Core.Bool.{true}
use lib.Dec.{ltb}
use borrow.Author.Rules.{rules}
use borrow.Author.Tests.{lt-ltb, eq-eqb, ne_eqb}
use Rattle.types.specs.Limits.{last_sequence}
use Rattle.deltas.specs.Delta.{delta_fits}
use Rattle.deltas.specs.Inner.Deciding.{step_of}
use Rattle.deltas.proofs.admit.Goals as goal
use Rattle.deltas.proofs.admit.Goals.{Else-held-eq-LAST_SEQUENCE, Else-not-delta_fits}

fits : (c : Else-not-delta_fits) → let d = c.args.delta in delta_fits d.action d.price d.quantity ≡ true
fits c = sym c.delta_fits.ensures ∙ c.if-not-delta_fits.false

more : (c : Else-held-eq-LAST_SEQUENCE) → ltb c.args.held last_sequence ≡ true
more c = lt-ltb c.args.held last_sequence (search rules)

pub returns-then-not-delta_fits : goal.returns-then-not-delta_fits
unfolding step_of
returns-then-not-delta_fits c = λ _ _ _ _. rw (sym c.delta_fits.ensures ∙ c.if-not-delta_fits.true)

pub returns-then-held-eq-LAST_SEQUENCE : goal.returns-then-held-eq-LAST_SEQUENCE
unfolding step_of
returns-then-held-eq-LAST_SEQUENCE c = λ _ _ _ _. rw (fits c.before, c.if-held-eq-LAST_SEQUENCE.true)

pub returns-then-next-held : goal.returns-then-next-held
unfolding step_of
returns-then-next-held c = λ _ _ _ _. rw (fits c.before.before, more c.before, ne_eqb c.args.delta.sequence (c.args.held + 1) c.if-next-held.true)

pub returns : goal.returns
unfolding step_of
returns c = λ _ _ _ _. rw (fits c.before.before, more c.before, eq-eqb c.args.delta.sequence (c.args.held + 1) c.if-next-held.false)
