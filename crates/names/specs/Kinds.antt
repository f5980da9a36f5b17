-- The numbers of a line's kind.
use Rattle.std.specs.Prelude.{List, [], ◌∷◌, ℤ, pos}
use Rattle.frames.specs.Frames.{Frame, delta, snapshot}

-- the kind of a frame: 1 for a delta, 2 for a snapshot
abbrev pub kind_of : Frame → List ℤ
kind_of (delta d) = pos 1 ∷ []
kind_of (snapshot s) = pos 2 ∷ []
