-- What is read from a stream: its lines, and from the lines of a damaged channel exactly the frames that came as sent. Proved in
-- proofs/Channel.antt and proofs/Splits.antt.
use Rattle.std.specs.Prelude.{ℕ, ◌<◌, ◌≡◌, List, ◌∷◌, map, length, take, drop}
use Rattle.std.proofs.Math.Option.{none}
use Rattle.frames.specs.Frames.{IsWhole}
use Rattle.frames.specs.Decode.{decode}
use Rattle.streams.specs.Streams.{lines, line_end}
use Rattle.streams.specs.Channel.{Piece, frame_of, IsDamage, IsDamaged, Pieces, piece_bytes, stream, seen}

-- `line_end` cuts what `lines` cuts: a stream is its first line, and the lines of the rest
abbrev pub CutsFirst : Type 0
CutsFirst = (s : List ℕ) → 0 < length s → lines s ≡ take (line_end s) s ∷ lines (drop (line_end s) s)

-- a frame's line that came damaged never reads as a frame, neither its own nor another
abbrev pub NeverReads : Type 0
NeverReads = (p : Piece) → IsDamage p → IsDamaged p → IsWhole (frame_of p) → decode (piece_bytes p) ≡ none

-- the lines of a stream read as what is seen: the frames that came as sent, in their places, and damage elsewhere
abbrev pub ReadsAsSeen : Type 0
ReadsAsSeen = (ps : List Piece) → Pieces ps → map decode (lines (stream ps)) ≡ seen ps
