-- One line taken: what is kept then is what was said before it, and then the line.
use Prim.Native.Nat.{ℕ, ◌+◌, ◌*◌, ◌≤◌, ◌<◌}
use mathlib.Core.Bool.{true}
use mathlib.Core.Path.{◌≡◌, refl, sym, ap, ◌∙◌}
use mathlib.Core.List.{List, [], ◌∷◌, ◌++◌}
use native.Mathlib.Omega.{arith}
use native.Mathlib.Numerals.{add-one}
use borrow.Author.Tests.{ltb-true, lt-ltb}
use lib.Dec.{ltb}
use Rattle.std.specs.Option.{is_some}
use Rattle.std.specs.Prelude.{Option, Some, None}
use lib.ListN.{length, take, set, length-set}
use lib.Seq.{length-sets, take-suc-set}
use Rattle.amount.specs.declared.Amount.{Amount}
use Rattle.types.proofs.Booleans.{by}
use Rattle.holding.specs.declared.Fill.{Fill}
use Rattle.day.specs.Numbers.{first_fills, fills_by, fill_numbers}
use Rattle.day_lines.specs.declared.Said.{Said}
use Rattle.day_lines.specs.declared.Said.TheVariants as L
use Rattle.day_lines.specs.Words.{spoken, words}
use Rattle.day_lines.specs.Lines.{said}
use Rattle.day_lines.proofs.Fits.{Small, SmallIn, said_small}
use Rattle.day_keeping.specs.Inner.Keeping.{is_going, is_good, Kept, spoilt, with, line_taken, line_ended}
use Rattle.day_texts.specs.Texts.{Read, unopened, day, no_day, and_line}
use Rattle.day_texts.specs.Kept.{read_kept}
use Rattle.day_texts.proofs.Numbers.{kept_more, kept-count}

-- what is kept, as the lines leave it
pub record Stands (k : Kept) : Type 0 where
  pub fills : k.fills ≤ 100000
  pub numbers : length k.numbers ≡ 500000
  pub lines : length k.lines ≡ 100000
  pub none : k.day.opening ≡ None → k.fills ≡ 0
  pub going : is_going k.day.reading ≡ is_good k.day.reading

-- a case on what may be there, with what it is
by_option : {A P : Type 0} (o : Option A) → (o ≡ None → P) → ((x : A) → o ≡ Some x → P) → P
by_option None f g = f refl
by_option (Some x) f g = g x refl

-- ── what is said ──

-- where a line is none of a day, there is none
pub none_after : (r : Read) (n : ℕ) → and_line r n L.Other ≡ no_day
none_after unopened n = refl
none_after (day d) n = refl
none_after no_day n = refl

module _ (k : Kept) (w : Stands k) (g : is_good k.day.reading ≡ true) where
  cash_read : (c : Amount) → read_kept (line_taken (L.Cash c) k) ≡ and_line (read_kept k) k.day.line (L.Cash c)
  unfolding first_fills
  cash_read c =
      by_option k.day.opening (λ e. rw (e, g, w.none e)) (λ o e. rw (e, g))

  -- the line of the fill, behind those that are kept
  lines_more : k.fills < 100000 → take (k.fills + 1) (set k.lines k.fills k.day.line) ≡ take k.fills k.lines ++ (k.day.line ∷ [])
  lines_more h = rw (add-one k.fills) (take-suc-set k.lines k.fills k.day.line (omega (arith, w.lines)))

  fill_read : (f : Fill) → Small f → read_kept (line_taken (L.Fill f) k) ≡ and_line (read_kept k) k.day.line (L.Fill f)
  fill_read f s =
      let n : length (fills_by (take (5 * k.fills) k.numbers)) ≡ k.fills = kept-count k.numbers k.fills (omega (arith, w.fills, w.numbers)) in
      by_option k.day.opening
      (λ e. rw (e, g))
      (λ o e.
      by (ltb k.fills 100000)
      (λ r.
      let h : k.fills < 100000 = ltb-true k.fills 100000 r in
      let m = kept_more k.numbers k.fills f (omega (arith, w.numbers)) s in
      rw (e, r, g, n, r, m, lines_more h))
      (λ r. rw (e, r, g, n, r)))

  pub line_read : (s : Said) → SmallIn s → read_kept (line_taken s k) ≡ and_line (read_kept k) k.day.line s
  line_read L.Nothing x = refl
  line_read (L.Cash c) x = cash_read c
  line_read (L.Fill f) x = fill_read f x
  line_read L.Other x = sym (none_after (read_kept k) k.day.line)

-- ── what stands ──

-- the line that is read stays the same
pub same_line : (s : Said) (k : Kept) → (line_taken s k).day.line ≡ k.day.line
same_line L.Nothing k = refl
same_line (L.Cash c) k = by (is_some k.day.opening) (λ t. rw t) (λ t. rw t)
same_line (L.Fill f) k =
    by (is_some k.day.opening)
    (λ t. by (ltb k.fills 100000) (λ r. rw (t, r)) (λ r. rw (t, r)))
    (λ t. rw t)
same_line L.Other k = refl

module _ (k : Kept) (w : Stands k) where
  spoilt_stands : Stands (with k (spoilt k.day))
  spoilt_stands = record { fills = w.fills; numbers = w.numbers; lines = w.lines; none = w.none; going = refl }

  taken_stands : (s : Said) → Stands (line_taken s k)
  taken_stands L.Nothing = w
  taken_stands (L.Cash c) =
      by_option k.day.opening
      (λ e. rw e (record { fills = w.fills; numbers = w.numbers; lines = w.lines; none = λ _. w.none e; going = w.going }))
      (λ o e. rw (ap is_some e) spoilt_stands)
  taken_stands (L.Fill f) =
      by_option k.day.opening
      (λ e. rw (ap is_some e) spoilt_stands)
      (λ o e.
      by (ltb k.fills 100000)
      (λ r.
      let h : k.fills < 100000 = ltb-true k.fills 100000 r in
      rw (e, r) (record {
        fills = omega arith;
        numbers = length-sets k.numbers (5 * k.fills) (fill_numbers f) ∙ w.numbers;
        lines = length-set k.lines k.fills k.day.line ∙ w.lines;
        none = λ f. cc;
        going = w.going;
      }))
      (λ r. rw (ap is_some e, r) spoilt_stands))
  taken_stands L.Other = spoilt_stands

-- a line that has ended, and the next begun
module _ (bytes : List ℕ) (k : Kept) (w : Stands k) where
  pub ended_stands : Stands (line_ended bytes k)
  ended_stands =
      let m = taken_stands k w (said bytes) in
      record { fills = m.fills; numbers = m.numbers; lines = m.lines; none = m.none; going = m.going }

  pub ended-line : k.day.line < 18446744073709551615 → (line_ended bytes k).day.line ≡ k.day.line + 1
  ended-line h = rw (same_line (said bytes) k, lt-ltb k.day.line 18446744073709551615 h)

  pub ended_read : is_good k.day.reading ≡ true → read_kept (line_ended bytes k) ≡ and_line (read_kept k) k.day.line (said bytes)
  ended_read g = line_read k w g (said bytes) (said_small (words (spoken bytes)))
