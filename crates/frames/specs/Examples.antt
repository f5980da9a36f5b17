-- Lines of frames, computed: those of the four lines of examples/four.feed, a snapshot with levels, a Remove, and lines that are damaged.
use Rattle.std.specs.Prelude.{◌≡◌, refl, List, [], ◌∷◌, ℕ}
use Rattle.std.proofs.Math.Option.{none, some}
use Rattle.types.specs.declared.Side.TheVariants.{Bid, Ask}
use Rattle.levels.specs.Order.{leads, in_order}
use Rattle.levels.specs.Table.{level}
use Rattle.levels.specs.Formed.{every, well_formed}
use Rattle.deltas.specs.declared.DeltaAction.TheVariants.{Set, Remove}
use Rattle.sides.specs.Best.{best_of, is_apart}
use Rattle.orderbook.specs.Book.{sides_fit}
use Rattle.wire.specs.Wire.{digit, value, check_byte, line}
use Rattle.frames.specs.Frames.{Frame, delta, snapshot, encode, is_whole}
use Rattle.frames.specs.Decode.{if_line_of, decode}

-- 0200000000000000000000FE
abbrev pub line1 : List ℕ
line1 =
    48 ∷ 50 ∷ 48 ∷ 48 ∷ 48 ∷ 48 ∷ 48 ∷ 48 ∷ 48 ∷ 48 ∷ 48 ∷ 48 ∷ 48 ∷ 48 ∷ 48 ∷ 48 ∷ 48 ∷ 48 ∷ 48 ∷ 48 ∷ 48 ∷ 48 ∷ 70 ∷ 69 ∷ 10 ∷ []

-- 0100000000006400000005000000000000000195
abbrev pub line2 : List ℕ
line2 =
    48 ∷ 49 ∷ 48 ∷ 48 ∷ 48 ∷ 48 ∷ 48 ∷ 48 ∷ 48 ∷ 48 ∷ 48 ∷ 48 ∷ 54 ∷ 52 ∷ 48 ∷ 48 ∷ 48 ∷ 48 ∷ 48 ∷ 48 ∷ 48 ∷ 53 ∷ 48 ∷ 48 ∷ 48 ∷ 48 ∷ 48 ∷ 48 ∷ 48 ∷
    48 ∷ 48 ∷ 48 ∷ 48 ∷ 48 ∷ 48 ∷ 48 ∷ 48 ∷ 49 ∷ 57 ∷ 53 ∷ 10 ∷ []

-- 02000000000000000501010000006400000005000000650000000425
abbrev pub line3 : List ℕ
line3 =
    48 ∷ 50 ∷ 48 ∷ 48 ∷ 48 ∷ 48 ∷ 48 ∷ 48 ∷ 48 ∷ 48 ∷ 48 ∷ 48 ∷ 48 ∷ 48 ∷ 48 ∷ 48 ∷ 48 ∷ 53 ∷ 48 ∷ 49 ∷ 48 ∷ 49 ∷ 48 ∷ 48 ∷ 48 ∷ 48 ∷ 48 ∷ 48 ∷ 54 ∷
    52 ∷ 48 ∷ 48 ∷ 48 ∷ 48 ∷ 48 ∷ 48 ∷ 48 ∷ 53 ∷ 48 ∷ 48 ∷ 48 ∷ 48 ∷ 48 ∷ 48 ∷ 54 ∷ 53 ∷ 48 ∷ 48 ∷ 48 ∷ 48 ∷ 48 ∷ 48 ∷ 48 ∷ 52 ∷ 50 ∷ 53 ∷ 10 ∷ []

-- 0101010000006500000000000000000000000692
abbrev pub line4 : List ℕ
line4 =
    48 ∷ 49 ∷ 48 ∷ 49 ∷ 48 ∷ 49 ∷ 48 ∷ 48 ∷ 48 ∷ 48 ∷ 48 ∷ 48 ∷ 54 ∷ 53 ∷ 48 ∷ 48 ∷ 48 ∷ 48 ∷ 48 ∷ 48 ∷ 48 ∷ 48 ∷ 48 ∷ 48 ∷ 48 ∷ 48 ∷ 48 ∷ 48 ∷ 48 ∷
    48 ∷ 48 ∷ 48 ∷ 48 ∷ 48 ∷ 48 ∷ 48 ∷ 48 ∷ 54 ∷ 57 ∷ 50 ∷ 10 ∷ []

-- the snapshot of the empty book at sequence 0
abbrev pub frame1 : Frame
frame1 = snapshot (record { sequence = 0; bids = []; asks = [] })

-- Set bid 100×5, sequence 1
abbrev pub frame2 : Frame
frame2 = delta (record { side = Bid; price = 100; quantity = 5; action = Set; sequence = 1 })

-- the snapshot of bid 100×5 and ask 101×4 at sequence 5
abbrev pub frame3 : Frame
frame3 = snapshot (record { sequence = 5; bids = level 100 5 ∷ []; asks = level 101 4 ∷ [] })

-- Remove ask 101, sequence 6
abbrev pub frame4 : Frame
frame4 = delta (record { side = Ask; price = 101; quantity = 0; action = Remove; sequence = 6 })

written : (encode frame1 ≡ line1) × (encode frame2 ≡ line2) × (encode frame3 ≡ line3) × (encode frame4 ≡ line4)
unfolding encode line check_byte digit
written = (refl, refl, refl, refl)

read : (decode line1 ≡ some frame1) × (decode line2 ≡ some frame2) × (decode line3 ≡ some frame3) × (decode line4 ≡ some frame4)
unfolding decode if_line_of is_whole sides_fit well_formed in_order leads every best_of is_apart encode line check_byte digit value
read = (refl, refl, refl, refl)

-- 0100010000006400000005000000000000000194: a Remove with a quantity, its check byte right
abbrev remove-of-5 : List ℕ
remove-of-5 =
    48 ∷ 49 ∷ 48 ∷ 48 ∷ 48 ∷ 49 ∷ 48 ∷ 48 ∷ 48 ∷ 48 ∷ 48 ∷ 48 ∷ 54 ∷ 52 ∷ 48 ∷ 48 ∷ 48 ∷ 48 ∷ 48 ∷ 48 ∷ 48 ∷ 53 ∷ 48 ∷ 48 ∷ 48 ∷ 48 ∷ 48 ∷ 48 ∷ 48 ∷
    48 ∷ 48 ∷ 48 ∷ 48 ∷ 48 ∷ 48 ∷ 48 ∷ 48 ∷ 49 ∷ 57 ∷ 52 ∷ 10 ∷ []

-- 0100000000006400000005000000000000000195 without its line feed
abbrev unended : List ℕ
unended =
    48 ∷ 49 ∷ 48 ∷ 48 ∷ 48 ∷ 48 ∷ 48 ∷ 48 ∷ 48 ∷ 48 ∷ 48 ∷ 48 ∷ 54 ∷ 52 ∷ 48 ∷ 48 ∷ 48 ∷ 48 ∷ 48 ∷ 48 ∷ 48 ∷ 53 ∷ 48 ∷ 48 ∷ 48 ∷ 48 ∷ 48 ∷ 48 ∷ 48 ∷
    48 ∷ 48 ∷ 48 ∷ 48 ∷ 48 ∷ 48 ∷ 48 ∷ 48 ∷ 49 ∷ 57 ∷ 53 ∷ []

-- an empty line, a Remove with a quantity and a line without its line feed are damaged
damaged : (decode (10 ∷ []) ≡ none) × (decode remove-of-5 ≡ none) × (decode unended ≡ none)
unfolding decode if_line_of is_whole sides_fit well_formed in_order leads every best_of is_apart encode line check_byte digit value
damaged = (refl, refl, refl)
