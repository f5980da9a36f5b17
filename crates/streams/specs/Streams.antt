-- A stream of bytes is its lines, each with the line feed that ends it; the bytes after the last line feed are one line.
use Rattle.std.specs.Prelude.{ℕ, suc, cond, List, [], ◌∷◌, eqb}
use Rattle.types.specs.Bytes.{onto}
use Rattle.wire.specs.Wire.{line_feed}

-- the lines of a stream
abbrev pub lines : List ℕ → List (List ℕ)
lines [] = []
lines (c ∷ cs) = cond (eqb c line_feed) ((c ∷ []) ∷ lines cs) (onto c (lines cs))

-- the length of the first line, its line feed included; all of it where there is none
abbrev pub line_end : List ℕ → ℕ
line_end [] = 0
line_end (c ∷ cs) = cond (eqb c line_feed) 1 (suc (line_end cs))
