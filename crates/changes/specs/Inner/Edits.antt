-- What a change does to a side's rows, one row at a time. proofs/Edits.antt has the laws that an edit makes Set's and Remove's list of
-- levels.
use Rattle.std.specs.Prelude.{ℕ, ◌+◌, ◌-◌, ◌≤◌, ◌<◌, cond, List, ◌∷◌, ◌++◌, ltb, take, drop, set, Result, Ok, Err}
use Rattle.types.specs.Limits.{max_levels}
use Rattle.types.specs.declared.PriceLevel.{PriceLevel}
use Rattle.types.specs.declared.Refusal.TheVariants as R
use Rattle.levels.specs.declared.Levels.{Levels}
use Rattle.levels.specs.declared.Place.{Place}
use Rattle.levels.specs.declared.Place.TheVariants.{At, Before}
use Rattle.levels.specs.Table.{rows}
use Rattle.changes.specs.declared.Edit.{Edit}
use Rattle.changes.specs.declared.Edit.TheVariants.{Keep, Over, In, Out}
use Rattle.types.specs.declared.Refusal.{Refusal}

-- v at the place at, and what stood there up to n one place on
abbrev pub inserted : List ℕ → ℕ → ℕ → ℕ → List ℕ
inserted xs at n v = take at xs ++ (v ∷ (take (n - at) (drop at xs) ++ drop (n + 1) xs))

-- the place at taken out, what stood behind it up to n one place back, and 0 at the last
abbrev pub deleted : List ℕ → ℕ → ℕ → List ℕ
deleted xs at n = take at xs ++ (take (n - (at + 1)) (drop (at + 1) xs) ++ (0 ∷ drop n xs))

-- a row of n used places after an edit with the number v
abbrev pub row_after : Edit → ℕ → ℕ → List ℕ → List ℕ
row_after Keep n v xs = xs
row_after (Over i) n v xs = set xs i v
row_after (In i) n v xs = inserted xs i n v
row_after (Out i) n v xs = deleted xs i n

-- the count after an edit
abbrev pub count_after : Edit → ℕ → ℕ
count_after Keep n = n
count_after (Over i) n = n
count_after (In i) n = n + 1
count_after (Out i) n = n - 1

-- the table after an edit with a level
abbrev pub edited : Edit → PriceLevel → Levels → Levels
edited e l t = rows (row_after e t.count l.price t.prices) (row_after e t.count l.quantity t.quantities) (count_after e t.count)

-- the edit stays within the row
abbrev pub EditFits : Edit → ℕ → Type 0
EditFits Keep n = n ≤ max_levels
EditFits (Over i) n = (i < n) × (n ≤ max_levels)
EditFits (In i) n = (i ≤ n) × (n < max_levels)
EditFits (Out i) n = (i < n) × (n ≤ max_levels)

-- a level put at the place of its price: over what stands there, or in between
abbrev pub put_edit : Place → Edit
put_edit (At i) = Over i
put_edit (Before i) = In i

-- what stands at the place of a price taken out, if there is anything
abbrev pub out_edit : Place → Edit
out_edit (At i) = Out i
out_edit (Before i) = Keep

-- Set of a price on a side of n levels: put at its place, or 6 if it is new and the side is full
abbrev pub set_step : ℕ → Place → Result Edit Refusal
set_step n (At i) = Ok (Over i)
set_step n (Before i) = cond (ltb n max_levels) (Ok (In i)) (Err R.FullSide)

-- the edit of a step: a refusal leaves the rows alone
abbrev pub edit_of : Result Edit Refusal → Edit
edit_of (Ok e) = e
edit_of (Err r) = Keep
