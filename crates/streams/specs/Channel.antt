-- What a channel makes of the lines sent, damage of at most one kind a line, and what is to be read from it.
use Rattle.std.specs.Prelude.{ℕ, ◌<◌, ◌≡◌, length, get_or, set, take}
use Rattle.std.proofs.Math.Option.{Option, none, some}
use mathlib.Core.List.{List, [], ◌∷◌, ◌++◌, tail}
use Rattle.wire.specs.Wire.{line_feed}
use Rattle.frames.specs.Frames.{Frame, digits, encode, IsWhole}

-- a line as it comes: as sent; the digit at i replaced by the byte c; cut to its first n digits; its line feed lost
pub data Piece : Type 0 where
  sent : Frame → Piece
  replaced : Frame → ℕ → ℕ → Piece
  cut : Frame → ℕ → Piece
  joined : Frame → Piece

-- the frame whose line it was
abbrev pub frame_of : Piece → Frame
frame_of (sent f) = f
frame_of (replaced f i c) = f
frame_of (cut f n) = f
frame_of (joined f) = f

-- a digit is replaced by another byte that is no line feed; a digit or more is cut off, but not all
abbrev pub IsDamage : Piece → Type 0
IsDamage (sent f) = Unit {0}
IsDamage (replaced f i c) = (i < length (digits f)) × (get_or (digits f) i 0 ≡ c → ⊥) × (c ≡ line_feed → ⊥)
IsDamage (cut f n) = (0 < n) × (n < length (digits f))
IsDamage (joined f) = Unit {0}

-- it did not come as sent
abbrev pub IsDamaged : Piece → Type 0
IsDamaged (sent f) = ⊥
IsDamaged (replaced f i c) = Unit {0}
IsDamaged (cut f n) = Unit {0}
IsDamaged (joined f) = Unit {0}

-- pieces of whole frames
abbrev pub Pieces : List Piece → Type 0
Pieces [] = Unit {0}
Pieces (p ∷ ps) = IsDamage p × IsWhole (frame_of p) × Pieces ps

-- the bytes that come
abbrev pub piece_bytes : Piece → List ℕ
piece_bytes (sent f) = encode f
piece_bytes (replaced f i c) = set (digits f) i c ++ line_feed ∷ []
piece_bytes (cut f n) = take n (digits f) ++ line_feed ∷ []
piece_bytes (joined f) = digits f

-- one after the other
abbrev pub stream : List Piece → List ℕ
stream [] = []
stream (p ∷ ps) = piece_bytes p ++ stream ps

-- what is read from them: a line by itself, as sent, is its frame; all else is damaged, and a line without its line feed takes the next with it
abbrev pub seen : List Piece → List (Option Frame)
seen [] = []
seen (sent f ∷ ps) = some f ∷ seen ps
seen (replaced f i c ∷ ps) = none ∷ seen ps
seen (cut f n ∷ ps) = none ∷ seen ps
seen (joined f ∷ ps) = none ∷ tail (seen ps)
