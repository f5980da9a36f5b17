-- A feed read in chunks: of what is held and the chunk behind it the whole lines are taken, and the rest is kept for the next, cut where it is
-- already longer than a line may be. Proved in proofs/Chunks.antt.
use Rattle.std.specs.Prelude.{ℕ, zero, suc, ◌+◌, cond, ◌≡◌, List, [], ◌∷◌, ◌++◌, eqb, take, drop}
use Rattle.types.specs.Limits.{max_digits}
use Rattle.wire.specs.Wire.{line_feed}
use Rattle.streams.specs.Streams.{lines}
use Rattle.receiver.specs.declared.Receiver.{Receiver}
use Rattle.receiver.specs.Turns.{start, turns, heard}
use Rattle.printing.specs.Printed.{printed, counted, end_text}

-- one place on, if there is a place
abbrev pub onward : ℕ → ℕ
onward zero = zero
onward (suc n) = suc (suc n)

-- the length of a text's lines, without what follows its last line feed
abbrev pub whole_end : List ℕ → ℕ
whole_end [] = 0
whole_end (c ∷ cs) = cond (eqb c line_feed) (suc (whole_end cs)) (onward (whole_end cs))

-- the whole lines of a text
abbrev pub whole : List ℕ → List ℕ
whole s = take (whole_end s) s

-- one byte more than a line may have, its line feed included
abbrev pub too_long : ℕ
too_long = max_digits + 2

-- what is kept of the rest
abbrev pub kept : List ℕ → List ℕ
kept s = take too_long (drop (whole_end s) s)

-- the chunks joined
abbrev pub joined : List (List ℕ) → List ℕ
joined [] = []
joined (c ∷ cs) = c ++ joined cs

-- all that is printed of a feed that is read in chunks, by a receiver after k lines that holds some bytes
unfoldable pub fed : Receiver → ℕ → List ℕ → List (List ℕ) → List ℕ
fed r k h [] = printed k (turns r (lines h)) ++ end_text (heard r (lines h))
fed r k h (c ∷ cs) =
    printed k (turns r (lines (whole (h ++ c)))) ++
    fed (heard r (lines (whole (h ++ c)))) (counted k (turns r (lines (whole (h ++ c))))) (kept (h ++ c)) cs

-- wherever a feed is cut, it prints the outcomes of its lines and the end state
abbrev pub PrintsTheSame : Type 0
PrintsTheSame =
    (cs : List (List ℕ)) → fed start 0 [] cs ≡ printed 0 (turns start (lines (joined cs))) ++ end_text (heard start (lines (joined cs)))
