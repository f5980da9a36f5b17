-- What is kept of a text is what the text says (specs/Kept.antt), byte by byte.
use Prim.Native.Nat.{ℕ, ◌+◌, ◌≤◌, ◌<◌}
use mathlib.Core.Bool.{true}
use mathlib.Core.Path.{◌≡◌, refl, sym, ap, ◌∙◌}
use mathlib.Core.List.{List, [], ◌∷◌, ◌++◌}
use native.Mathlib.Omega.{arith}
use borrow.Author.Tests.{eq-eqb, ne_eqb, eqb-true, eqb-false, le-leb, lt-leb, ltb-true, ltb-false}
use lib.Dec.{eqb, ltb}
use lib.ListN.{length, length-append}
use Rattle.types.proofs.Booleans.{by}
use Rattle.day_lines.specs.Lines.{said}
use Rattle.day_lines.specs.declared.Said.{Said}
use Rattle.day_lines.specs.declared.Said.TheVariants as L
use Rattle.day_keeping.specs.declared.Reading.{Reading}
use Rattle.day_keeping.specs.declared.Reading.TheVariants.{Going, Ended, Failed}
use Rattle.day_keeping.specs.Inner.Keeping.{is_going, is_good, ended, finished, Kept, spoilt, with, line_ended}
use Rattle.day_collecting.specs.Inner.Collecting.{last_ended, none_kept, text_taken}
use Rattle.day_collecting.proofs.Texts.{stopped, byte_ends, byte_held, byte_past, at_end}
use Rattle.day_texts.specs.Texts.{lines_of, line_says, Read, unopened, no_day, and_line, read_on}
use Rattle.day_texts.specs.Kept.{read_kept, KeptAsSaid}
use Rattle.day_texts.proofs.Cuts.{alone, behind, behind-none, feed_ends, byte_kept, longer}
use Rattle.day_texts.proofs.Taken.{Stands, none_after, ended_stands, ended-line, ended_read}

-- where there is no day, no line makes one
no_more : (n : ℕ) (ls : List (List ℕ)) → read_on no_day n ls ≡ no_day
unfolding read_on
no_more n [] = refl
no_more n (l ∷ ls) = ap (λ (r : Read). read_on r (n + 1) ls) (stays (line_says l)) ∙ no_more (n + 1) ls
  where
    stays : (s : Said) → and_line no_day n s ≡ no_day
    stays L.Nothing = refl
    stays (L.Cash c) = refl
    stays (L.Fill f) = refl
    stays L.Other = refl

-- one line and others
next : (r : Read) (n : ℕ) (l : List ℕ) (ls : List (List ℕ)) → length l ≤ 4096 → read_on r n (l ∷ ls) ≡ read_on (and_line r n (said l)) (n + 1) ls
unfolding read_on
next r n l ls h = rw (le-leb (length l) 4096 h)

-- a line that is too long, and others
too_long_lem : (r : Read) (n : ℕ) (l : List ℕ) (ls : List (List ℕ)) → 4096 < length l → read_on r n (l ∷ ls) ≡ no_day
unfolding read_on
too_long_lem r n l ls h = rw (lt-leb (length l) 4096 h, none_after r n) (no_more (n + 1) ls)

-- the end of the text keeps what was read
finished_read : (k : Kept) → read_kept (with k (finished k.day)) ≡ read_kept k
finished_read k = rw (go k.day.reading)
  where
    go : (r : Reading) → is_good (ended r) ≡ is_good r
    go Going = refl
    go Ended = refl
    go Failed = refl

module _ (k : Kept) (w : Stands k) (g : is_good k.day.reading ≡ true) (held : List ℕ) (h : length held ≤ 4096) where
  -- more is read
  going : is_going k.day.reading ≡ true
  going = w.going ∙ g

  -- what the lines before it say, and then these
  abbrev then : List (List ℕ) → Read
  then = read_on (read_kept k) k.day.line

  -- the text ends
  at_last : read_kept (text_taken k held []) ≡ then (behind held (lines_of []))
  unfolding lines_of read_on
  at_last = ap read_kept (at_end k held going) ∙ last held h
    where
      last : (l : List ℕ) → length l ≤ 4096 → read_kept (last_ended l k) ≡ then (alone l)
      last [] m = finished_read k
      last (b ∷ bs) m = finished_read (line_ended (b ∷ bs) k) ∙ ended_read (b ∷ bs) k w g ∙ sym (next (read_kept k) k.day.line (b ∷ bs) [] m)

  module _ (b : ℕ) (bs : List ℕ) where
    -- a line feed: the line that is held has ended
    at-feed :
        b ≡ 10 → k.day.line < 18446744073709551615 →
        (is_good (line_ended held k).day.reading ≡ true → read_kept (text_taken (line_ended held k) [] bs) ≡ read_on (read_kept (line_ended held k)) (line_ended held k).day.line (behind [] (lines_of bs))) →
        read_kept (text_taken k held (b ∷ bs)) ≡ then (behind held (lines_of (b ∷ bs)))
    at-feed e c rest =
        ap read_kept (byte_ends k held b going e (line_ended held k) [] refl refl bs) ∙ after ∙
        ap (λ (r : Read). read_on r (k.day.line + 1) (lines_of bs)) (ended_read held k w g) ∙
        sym (ap then (feed_ends held b bs (eq-eqb b 10 e)) ∙ next (read_kept k) k.day.line held (lines_of bs) h)
      where
        after : read_kept (text_taken (line_ended held k) [] bs) ≡ read_on (read_kept (line_ended held k)) (k.day.line + 1) (lines_of bs)
        after =
            by (is_good (line_ended held k).day.reading)
            (λ t.
            rest t ∙ ap (λ (n : ℕ). read_on (read_kept (line_ended held k)) n (behind [] (lines_of bs))) (ended-line held k w c) ∙
            ap (read_on (read_kept (line_ended held k)) (k.day.line + 1)) (behind-none (lines_of bs)))
            (λ t.
            let none : read_kept (line_ended held k) ≡ no_day = rw t in
            ap read_kept (stopped (line_ended held k) [] bs ((ended_stands held k w).going ∙ t)) ∙ none ∙
            sym (ap (λ (r : Read). read_on r (k.day.line + 1) (lines_of bs)) none ∙ no_more (k.day.line + 1) (lines_of bs)))

    -- another byte is held
    at_byte :
        (b ≡ 10 → ⊥) → length held < 4096 →
        read_kept (text_taken k (held ++ (b ∷ [])) bs) ≡ then (behind (held ++ (b ∷ [])) (lines_of bs)) →
        read_kept (text_taken k held (b ∷ bs)) ≡ then (behind held (lines_of (b ∷ bs)))
    at_byte n l rest = ap read_kept (byte_held k held b going n l bs) ∙ rest ∙ sym (ap then (byte_kept held b bs (ne_eqb b 10 n)))

    -- the line is too long
    at_past : (b ≡ 10 → ⊥) → 4096 ≤ length held → read_kept (text_taken k held (b ∷ bs)) ≡ then (behind held (lines_of (b ∷ bs)))
    at_past n l =
        let more = longer held b bs (ne_eqb b 10 n) in
        ap read_kept (byte_past k held b going n l [] bs ∙ stopped (with k (spoilt k.day)) [] bs refl) ∙
        sym (ap then more.here ∙ too_long_lem (read_kept k) k.day.line more.line more.others (omega (arith, more.long)))

-- the bytes behind those that are held
from :
    (text held : List ℕ) (k : Kept) → Stands k → is_good k.day.reading ≡ true → length held ≤ 4096 → k.day.line + length text ≤ 18446744073709551615 →
    read_kept (text_taken k held text) ≡ read_on (read_kept k) k.day.line (behind held (lines_of text))
from [] held k w g h c = at_last k w g held h
from (b ∷ bs) held k w g h c =
    by (eqb b 10)
    (λ t. at-feed k w g held h b bs (eqb-true b 10 t) (omega arith) (λ m. from bs [] (line_ended held k) (ended_stands held k w) m (omega arith) (rw (ended-line held k w (omega arith)) (omega arith))))
    (λ t.
    by (ltb (length held) 4096)
    (λ r.
    let l : length held < 4096 = ltb-true (length held) 4096 r in
    at_byte k w g held h b bs (eqb-false b 10 t) l
    (from bs (held ++ (b ∷ [])) k w g (simp length-append (omega arith)) (omega arith)))
    (λ r. at_past k w g held h b bs (eqb-false b 10 t) (ltb-false (length held) 4096 r)))

pub kept_as_said : KeptAsSaid
kept_as_said text k o =
    let start = none_kept o.numbers o.lines in
    let w : Stands start = record { fills = omega arith; numbers = o.room.0; lines = o.room.1; none = λ _. refl; going = refl } in
    ap read_kept (sym o.whole) ∙ from text [] start w refl (omega arith) (omega (arith, o.counted)) ∙ ap (read_on unopened 1) (behind-none (lines_of text))
