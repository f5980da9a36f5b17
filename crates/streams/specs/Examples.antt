-- Streams of such lines as examples/four.feed has, and each way of damage at its edges.
use Rattle.std.specs.Prelude.{◌≡◌, refl, [], ◌∷◌, ◌++◌, map}
use Rattle.std.proofs.Math.Option.{none, some}
use Rattle.std.proofs.Common.{arith}
use Rattle.levels.specs.Order.{in_order}
use Rattle.levels.specs.Formed.{every, well_formed}
use Rattle.sides.specs.Best.{best_of, is_apart}
use Rattle.orderbook.specs.Book.{sides_fit}
use Rattle.wire.specs.Wire.{digit, value, check_byte, line}
use Rattle.frames.specs.Frames.{encode, digits, is_whole}
use Rattle.frames.specs.Decode.{if_line_of, decode}
use Rattle.frames.specs.Examples.{line1, line2, frame1, frame2}
use Rattle.streams.specs.Streams.{lines, line_end}
use Rattle.streams.specs.Channel.{sent, replaced, cut, joined, IsDamage, piece_bytes, stream, seen}

-- the four lines: a snapshot, a delta, the delta again, an empty line
pub read : map decode (lines (line1 ++ line2 ++ line2 ++ 10 ∷ [])) ≡ some frame1 ∷ some frame2 ∷ some frame2 ∷ none ∷ []
unfolding decode if_line_of is_whole sides_fit well_formed in_order every best_of is_apart encode line check_byte digit value
read = refl

-- the bytes after the last line feed are one line; no bytes are none
pub ends : (lines (65 ∷ 10 ∷ 66 ∷ []) ≡ (65 ∷ 10 ∷ []) ∷ (66 ∷ []) ∷ []) × (lines [] ≡ []) × (line_end (65 ∷ 10 ∷ 66 ∷ []) ≡ 2) × (line_end (66 ∷ []) ≡ 1)
ends = (refl, refl, refl, refl)

-- the line of Set bid 100×5, 40 digits, may be cut to its first digit or lose its last
pub cut_anywhere : IsDamage (cut frame2 1) × IsDamage (cut frame2 39)
unfolding digits
cut_anywhere = ((omega arith, omega arith), (omega arith, omega arith))

-- its first digit, a 0, may become a 9, and its last, a 5, a 6
pub replaced_anywhere : IsDamage (replaced frame2 0 57) × IsDamage (replaced frame2 39 54)
unfolding digits digit check_byte
replaced_anywhere = ((omega arith, λ e. omega arith, λ e. omega arith), (omega arith, λ e. omega arith, λ e. omega arith))

-- what comes of each, and of a line feed lost between lines and at the end of the stream
pub seen-so :
    seen (sent frame1 ∷ cut frame2 1 ∷ replaced frame2 0 57 ∷ joined frame1 ∷ sent frame2 ∷ sent frame2 ∷ joined frame2 ∷ []) ≡
    some frame1 ∷ none ∷ none ∷ none ∷ some frame2 ∷ none ∷ []
seen-so = refl

-- a line feed lost at the end: the digits alone
pub lost_feed : stream (sent frame1 ∷ joined frame1 ∷ []) ≡ line1 ++ 48 ∷ 50 ∷ 48 ∷ 48 ∷ 48 ∷ 48 ∷ 48 ∷ 48 ∷ 48 ∷ 48 ∷ 48 ∷ 48 ∷ 48 ∷ 48 ∷ 48 ∷ 48 ∷ 48 ∷ 48 ∷ 48 ∷ 48 ∷ 48 ∷ 48 ∷ 70 ∷ 69 ∷ []
unfolding encode digits line check_byte digit
lost_feed = refl

-- a cut to one digit leaves that digit and the line feed
pub cut_to_one : piece_bytes (cut frame2 1) ≡ 48 ∷ 10 ∷ []
unfolding digits digit
cut_to_one = refl
