-- Quotients, answered exactly as numerator and denominator, and the replies that carry one.
use Rattle.std.specs.Prelude.{ℕ, not, eqb, ℤ}
use Rattle.amount.specs.Whole.{amount}
use Rattle.types.specs.Replies.{Reply, done, if_value}
use Rattle.quotient.specs.declared.Quotient.{Quotient}

-- numerator over denominator, unreduced
unfoldable pub over : ℤ → ℕ → Quotient
over n d = record { numerator = amount n; denominator = d }

-- a zero denominator gives 10
unfoldable pub over_or_none : ℤ → ℕ → Reply Quotient
over_or_none n d = if_value (not (eqb d 0)) (done (over n d))
