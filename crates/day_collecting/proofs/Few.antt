-- However many fills a text says, no more are kept than there is room for.
use Prim.Native.Nat.{ℕ, ◌≤◌}
use mathlib.Core.Path.{subst}
use mathlib.Core.List.{List, [], ◌∷◌, ◌++◌}
use native.Mathlib.Omega.{arith}
use lib.Dec.{eqb, ltb}
use lib.ListN.{length}
use Rattle.types.proofs.Booleans.{by}
use Rattle.day_lines.specs.Lines.{max_line, said}
use Rattle.day_keeping.specs.Inner.Keeping.{Kept, is_going, line_ended}
use Rattle.day_keeping.proofs.Lines.{few_fills}
use Rattle.day_collecting.specs.Inner.Collecting.{last_ended, text_taken, KeptOf}

last-few : (held : List ℕ) (k : Kept) → k.fills ≤ 100000 → (last_ended held k).fills ≤ 100000
last-few [] k l = l
last-few (b ∷ bs) k l = few_fills (said (b ∷ bs)) k l

text-few : (t : List ℕ) (held : List ℕ) (k : Kept) → k.fills ≤ 100000 → (text_taken k held t).fills ≤ 100000
unfolding text_taken
text-few [] held k l = by (is_going k.day.reading) (λ g. rw g (last-few held k l)) (λ g. rw g l)
text-few (b ∷ bs) held k l =
    by (is_going k.day.reading)
    (λ g.
    rw g
    (by (eqb b 10)
    (λ e. rw e (text-few bs [] (line_ended held k) (few_fills (said held) k l)))
    (λ e.
    rw e
    (by (ltb (length held) max_line)
    (λ r. rw r (text-few bs (held ++ (b ∷ [])) k l))
    (λ r. rw r l)))))
    (λ g. rw g l)

pub kept_few : (text : List ℕ) (k : Kept) → KeptOf text k → k.fills ≤ 100000
kept_few text k o = subst (λ (m : Kept). m.fills ≤ 100000) o.whole (text-few text [] _ (omega arith))
