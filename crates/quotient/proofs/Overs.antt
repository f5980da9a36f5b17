-- The reply of a quotient, by whether its denominator is 0: what callers cite in place of the definition's text.
use Prim.Native.Nat.{ℕ}
use mathlib.Core.Path.{◌≡◌}
use mathlib.Core.List.{[]}
use lib.IntN.{ℤ}
use borrow.Author.Tests.{eq-eqb, ne_eqb}
use Rattle.types.specs.Replies.{done, refused}
use Rattle.quotient.specs.Over.{over, over_or_none}

module _ (n : ℤ) (d : ℕ) where
  pub over_none : d ≡ 0 → over_or_none n d ≡ refused 10 []
  unfolding over_or_none
  over_none e = rw (eq-eqb _ _ e)

  pub over_some : (d ≡ 0 → ⊥) → over_or_none n d ≡ done (over n d)
  unfolding over_or_none
  over_some h = rw (ne_eqb _ _ h)
