-- What a line reads as: the numbers that stand where a frame of its kind has its own, if they are a whole frame and this is its line; else
-- damage. specs/OneLine.antt says what that comes to: a line reads as a frame exactly where the frame is whole and the line is its own.
use Rattle.std.specs.Prelude.{ℕ, zero, suc, ◌+◌, ◌*◌, Bool, true, false, cond, ◌&&◌, List, [], ◌∷◌, eqb, leb, length, drop}
use Rattle.std.proofs.Math.Option.{Option, none, some}
use Rattle.types.specs.Limits.{max_digits}
use Rattle.types.specs.Named.{side_named}
use Rattle.types.specs.Replies.{Reply, done, refused}
use Rattle.types.specs.declared.PriceLevel.{PriceLevel}
use Rattle.levels.specs.Table.{level}
use Rattle.deltas.specs.declared.BookDelta.{BookDelta}
use Rattle.deltas.specs.Delta.{action_named}
use Rattle.wire.specs.Wire.{field}
use Rattle.frames.specs.Frames.{Snapshot, Frame, delta, snapshot, encode, is_whole}

-- the numbers that stand where a delta has its own
abbrev pub delta_in : List ℕ → BookDelta
delta_in l =
    record { side = side_named (field 1 1 l); price = field 3 4 l; quantity = field 7 4 l; action = action_named (field 2 1 l); sequence = field 11 8 l }

-- n levels from the front of the digits
abbrev pub levels_in : ℕ → List ℕ → List PriceLevel
levels_in zero l = []
levels_in (suc n) l = level (field 0 4 l) (field 4 4 l) ∷ levels_in n (drop 16 l)

-- the numbers that stand where a snapshot has its own
abbrev pub snapshot_in : List ℕ → Snapshot
snapshot_in l =
    record { sequence = field 1 8 l; bids = levels_in (field 9 1 l) (drop 22 l); asks = levels_in (field 10 1 l) (drop (22 + 16 * field 9 1 l) l) }

-- the frame of its kind that a line would be
abbrev pub frame_in : List ℕ → Frame
frame_in l = cond (eqb (field 0 1 l) 1) (delta (delta_in l)) (snapshot (snapshot_in l))

-- the same bytes
abbrev pub same : List ℕ → List ℕ → Bool
same [] [] = true
same [] (y ∷ ys) = false
same (x ∷ xs) [] = false
same (x ∷ xs) (y ∷ ys) = eqb x y && same xs ys

-- the frame, if it is whole and the line is its own
unfoldable pub if_line_of : List ℕ → Frame → Option Frame
if_line_of l f = cond (is_whole f && same l (encode f)) (some f) none

-- what a line of at most 4,120 digits and a line feed reads as; a longer one is damaged
unfoldable pub decode : List ℕ → Option Frame
decode l = cond (leb (length l) (max_digits + 1)) (if_line_of l (frame_in l)) none

-- read_delta: the delta of a line that reads as one; any other line is 12
abbrev pub delta_read : Option Frame → Reply BookDelta
delta_read none = refused 12 []
delta_read (some (delta d)) = done d
delta_read (some (snapshot s)) = refused 12 []
