-- Answers as numbers: the number of an answer (docs/ANSWERS.md), and its values, each as a size and a sign.
use Rattle.std.specs.Prelude.{ℕ, Bool, cond, List, [], ◌∷◌, ℤ, pos, nat_abs, length, get_or}
use Rattle.std.specs.Int.Signed.{lt_z}
use Rattle.amount.specs.declared.Amount.{Amount}
use Rattle.types.specs.Replies.{Reply, done, refused}
use Rattle.types.specs.declared.PriceLevel.{PriceLevel}
use Rattle.types.specs.declared.Quote.{Quote}
use Rattle.quotient.specs.declared.Quotient.{Quotient}
use Rattle.told.specs.declared.Whole.{Whole}
use Rattle.told.specs.declared.Told.{Told}

-- a whole number: its size, and whether it is negative
abbrev pub whole : ℤ → Whole
whole z = record { size = nat_abs z; negative = lt_z z (pos 0) }

-- the value at a place, 0 where there is none
abbrev pub value_at : List ℤ → ℕ → Whole
value_at vs i = whole (get_or vs i (pos 0))

-- a number, how many values it carries, and up to four of them
abbrev pub told : ℕ → List ℤ → Told
told n vs =
    record { number = n; count = length vs; first = value_at vs 0; second = value_at vs 1; third = value_at vs 2; fourth = value_at vs 3 }

-- a reply: 0 and the values of its answer, or the number and values of its refusal
abbrev pub tell : {A : Type 0} → (A → List ℤ) → Reply A → Told
tell f (done a) = told 0 (f a)
tell f (refused n vs) = told n vs

-- a change carries no value: the record stands beside it
abbrev pub nothing : Unit {0} → List ℤ
nothing u = []

-- one number
abbrev pub one_number : ℕ → List ℤ
one_number x = pos x ∷ []

-- 1 for yes, 0 for no
abbrev pub yes_or_no : Bool → List ℤ
yes_or_no x = pos (cond x 1 0) ∷ []

-- a level's price and quantity
abbrev pub one_level : PriceLevel → List ℤ
one_level x = pos x.price ∷ pos x.quantity ∷ []

-- the best bid's price and quantity, then the best ask's
abbrev pub both_levels : Quote → List ℤ
both_levels x = pos x.bid.price ∷ pos x.bid.quantity ∷ pos x.ask.price ∷ pos x.ask.quantity ∷ []

-- an amount
abbrev pub one_amount : Amount → List ℤ
one_amount x = x.value ∷ []

-- a ratio's numerator and denominator
abbrev pub one_ratio : Quotient → List ℤ
one_ratio x = x.numerator.value ∷ pos x.denominator ∷ []
