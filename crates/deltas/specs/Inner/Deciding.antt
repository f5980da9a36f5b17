-- What code decides before it writes: the refusal of a delta, or the edit of its side's rows. That a step, carried out, is the change that `applied` defines
-- is a law of crate orderbook.
use Rattle.std.specs.Prelude.{ℕ, ◌+◌, Bool, cond, ◌&&◌, ◌≡◌, List, eqb, leb, ltb, take, Result, Ok, Err}
use Rattle.types.specs.Limits.{last_sequence}
use Rattle.types.specs.declared.Side.{Side}
use Rattle.types.specs.declared.Side.TheVariants.{Bid, Ask}
use Rattle.types.specs.declared.Refusal.{Refusal}
use Rattle.types.specs.declared.Refusal.TheVariants as R
use Rattle.levels.specs.Order.{place_from}
use Rattle.changes.specs.declared.Edit.{Edit}
use Rattle.changes.specs.Inner.Edits.{row_after, count_after, set_step, out_edit, edit_of}
use Rattle.deltas.specs.declared.BookDelta.{BookDelta}
use Rattle.deltas.specs.declared.DeltaAction.{DeltaAction}
use Rattle.deltas.specs.declared.DeltaAction.TheVariants.{Set, Remove}
use Rattle.deltas.specs.declared.Counts.{Counts}
use Rattle.deltas.specs.Delta.{delta_fits}

-- a price meets the other side's best price, 0 for none
abbrev pub meets : Side → ℕ → ℕ → Bool
meets Bid price best = leb 1 best && leb best price
meets Ask price best = leb price best

-- 5 with the best bid and the best ask that the attempted Set would leave
abbrev pub inverted : Side → ℕ → ℕ → Refusal
inverted Bid price best = R.InvertedSpread price best
inverted Ask price best = R.InvertedSpread best price

-- the action on a side's prices, where the other side's best price is best
abbrev pub action_step : DeltaAction → Side → List ℕ → ℕ → ℕ → ℕ → Result Edit Refusal
action_step Set s prices n best price = cond (meets s price best) (Err (inverted s price best)) (set_step n (place_from s price 0 prices))
action_step Remove s prices n best price = Ok (out_edit (place_from s price 0 prices))

-- a delta to a side with these prices, where the other side's best price is best and the book's sequence is held
unfoldable pub step_of : Side → List ℕ → ℕ → ℕ → ℕ → BookDelta → Result Edit Refusal
step_of s prices n best held d =
    cond (delta_fits d.action d.price d.quantity)
    (cond (ltb held last_sequence)
    (cond (eqb d.sequence (held + 1)) (action_step d.action s prices n best d.price) (Err (R.SequenceMismatch (held + 1) d.sequence)))
    (Err R.LastSequence))
    (Err R.OutOfLimits)

-- the sequence after a step
abbrev pub sequence_after : Result Edit Refusal → ℕ → ℕ → ℕ
sequence_after (Ok e) held next = next
sequence_after (Err r) held next = held

-- the outcome of a step
abbrev pub outcome_of : Result Edit Refusal → Result (Unit {0}) Refusal
outcome_of (Ok e) = Ok tt
outcome_of (Err r) = Err r

-- a side's count
abbrev pub count_of : Side → Counts → ℕ
count_of Bid c = c.bids
count_of Ask c = c.asks

-- the counts with one side's count and a sequence
abbrev pub with_count : Side → ℕ → ℕ → Counts → Counts
with_count Bid n sequence c = record { bids = n; asks = c.asks; sequence = sequence }
with_count Ask n sequence c = record { bids = c.bids; asks = n; sequence = sequence }

-- a delta to a side's row of prices, where the other side's best price is best
abbrev pub step_at : Side → List ℕ → Counts → ℕ → BookDelta → Result Edit Refusal
step_at s prices c best d = step_of s (take (count_of s c) prices) (count_of s c) best c.sequence d

-- the counts that a step leaves
abbrev pub beside : Side → Result Edit Refusal → Counts → BookDelta → Counts
beside s st c d = with_count s (count_after (edit_of st) (count_of s c)) (sequence_after st c.sequence d.sequence) c

-- a step done in place: both rows of its side, which held p and q and hold p' and q', the counts, which were c and are c', and the outcome
pub record Stepped (s : Side) (st : Result Edit Refusal) (c : Counts) (d : BookDelta) (p q p' q' : List ℕ) (c' : Counts) (r : Result (Unit {0}) Refusal) : Type 0 where
  pub prices : p' ≡ row_after (edit_of st) (count_of s c) d.price p
  pub quantities : q' ≡ row_after (edit_of st) (count_of s c) d.quantity q
  pub counts : c' ≡ beside s st c d
  pub outcome : r ≡ outcome_of st
