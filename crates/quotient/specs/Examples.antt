-- Quotients in plain numbers: what examples expect is written so, and never by the definition that they are about.
use Rattle.std.specs.Prelude.{ℕ, ◌≡◌, refl, [], pos, neg_ℤ}
use Rattle.amount.specs.Whole.{amount}
use Rattle.types.specs.Replies.{done, refused}
use Rattle.quotient.specs.declared.Quotient.{Quotient}
use Rattle.quotient.specs.Over.{over, over_or_none}

-- this numerator over this denominator, as it is written down
abbrev pub quotient : ℕ → ℕ → Quotient
quotient n d = record { numerator = amount (pos n); denominator = d }

-- unreduced, the sign on the numerator, and none over 0
pub quotients :
    (over_or_none (pos 5) 25 ≡ done (quotient 5 25)) ×
    (over_or_none (pos 0) 10 ≡ done (quotient 0 10)) ×
    (over_or_none (neg_ℤ (pos 15)) 15 ≡ done (record { numerator = amount (neg_ℤ (pos 15)); denominator = 15 })) ×
    (over_or_none (pos 5) 0 ≡ refused 10 [])
unfolding over over_or_none
quotients = (refl, refl, refl, refl)
