-- Laws of a text that is taken byte by byte, and of the lines that end in it.
use Prim.Native.Nat.{ℕ, ◌+◌, ◌≤◌, ◌<◌}
use mathlib.Core.Bool.{Bool, true, false, cond}
use mathlib.Core.Path.{◌≡◌, refl, sym, ap, ◌∙◌}
use mathlib.Core.List.{List, [], ◌∷◌, ◌++◌, append_assoc, append-nil}
use native.Mathlib.Omega.{arith}
use native.Mathlib.Numerals.{add-one}
use borrow.Author.Tests.{eq-eqb, ne_eqb, lt-ltb, le-ltb}
use lib.ListN.{length, drop, get_or, length-append}
use lib.Seq.{drop-cons}
use Rattle.day_keeping.specs.declared.Reading.{Reading}
use Rattle.day_keeping.specs.declared.Reading.TheVariants.{Going, Ended, Failed}
use Rattle.day_keeping.specs.Inner.Keeping.{is_going, ended, Kept, finished, spoilt, with, line_ended}
use Rattle.day_collecting.specs.Inner.Collecting.{last_ended, text_taken, Goes, Took}

-- ── a byte ──

-- where nothing more is read, nothing is taken
pub stopped : (k : Kept) (h t : List ℕ) → is_going k.day.reading ≡ false → text_taken k h t ≡ k
unfolding text_taken
stopped k h [] e = rw e
stopped k h (b ∷ bs) e = rw e

module _ (k : Kept) (h : List ℕ) (b : ℕ) (m : is_going k.day.reading ≡ true) where
  ends : b ≡ 10 → Goes k h (b ∷ []) (line_ended h k) []
  unfolding text_taken
  ends e rest = rw (m, eq-eqb b 10 e)

  pub byte_ends : b ≡ 10 → (k' : Kept) (h' : List ℕ) → k' ≡ line_ended h k → h' ≡ [] → Goes k h (b ∷ []) k' h'
  byte_ends e k' h' ek eh rest = rw (ek, eh) (ends e rest)

  pub byte_held : (b ≡ 10 → ⊥) → length h < 4096 → Goes k h (b ∷ []) k (h ++ (b ∷ []))
  unfolding text_taken
  byte_held n l rest = rw (m, ne_eqb b 10 n, lt-ltb (length h) 4096 l)

  pub byte_past : (b ≡ 10 → ⊥) → 4096 ≤ length h → (h' : List ℕ) → Goes k h (b ∷ []) (with k (spoilt k.day)) h'
  unfolding text_taken
  byte_past n l h' rest = rw (m, ne_eqb b 10 n, le-ltb (length h) 4096 l) (sym (stopped (with k (spoilt k.day)) h' rest refl))

-- ── bytes ──

-- one of them
pub one_byte :
    (bytes : List ℕ) (i : ℕ) (k k' : Kept) (h h' : List ℕ) → i < length bytes → Goes k h (get_or bytes i 0 ∷ []) k' h' → (rest : List ℕ) →
    text_taken k h (drop i bytes ++ rest) ≡ text_taken k' h' (drop (i + 1) bytes ++ rest)
one_byte bytes i k k' h h' l g rest =
    let there : drop i bytes ≡ get_or bytes i 0 ∷ drop (i + 1) bytes = rw (add-one i) (drop-cons bytes i 0 l) in
    rw there (g (drop (i + 1) bytes ++ rest))

-- chunks one behind the other come to what the text comes to that they make
pub goes_then : (k l m : Kept) (h i j bytes more : List ℕ) → Goes k h bytes l i → Goes l i more m j → Goes k h (bytes ++ more) m j
goes_then k l m h i j bytes more g f rest = rw (append_assoc bytes more rest) (g (more ++ rest) ∙ f rest)

-- nothing more is read
pub none-taken : (bytes : List ℕ) (i : ℕ) (k : Kept) (h : List ℕ) → is_going k.day.reading ≡ false → (rest : List ℕ) → text_taken k h (drop i bytes ++ rest) ≡ text_taken k h rest
none-taken bytes i k h e rest = stopped k h (drop i bytes ++ rest) e ∙ sym (stopped k h rest e)

-- ── the end ──

pub ended_stops : (r : Reading) → is_going (ended r) ≡ false
ended_stops Going = refl
ended_stops Ended = refl
ended_stops Failed = refl

module _ (k : Kept) (h : List ℕ) (m : is_going k.day.reading ≡ true) where
  pub at_end : text_taken k h [] ≡ last_ended h k
  unfolding text_taken
  at_end = ap (λ (t : Bool). cond t (last_ended h k) k) m

  pub last_line : (x : Kept) → 0 < length h → x ≡ line_ended h k → with x (finished x.day) ≡ text_taken k h []
  last_line x l e = ap (λ (y : Kept). with y (finished y.day)) e ∙ go h l ∙ sym at_end
    where
      go : (g : List ℕ) → 0 < length g → (let y = line_ended g k in with y (finished y.day)) ≡ last_ended g k
      go [] p = absurd (omega arith)
      go (b ∷ bs) p = refl

  pub no_last_line : length h ≡ 0 → with k (finished k.day) ≡ text_taken k h []
  no_last_line e = go h e ∙ sym at_end
    where
      go : (g : List ℕ) → length g ≡ 0 → with k (finished k.day) ≡ last_ended g k
      go [] p = refl
      go (b ∷ bs) p = absurd (omega arith)

-- ── what was read ──

-- some bytes
pub took_bytes : (most : ℕ) (k k' : Kept) (h h' bytes : List ℕ) → length bytes ≤ most → Goes k h bytes k' h' → Took most k h k' h'
took_bytes most k k' h h' bytes l g =
    record { bytes = bytes; few = l; goes = λ _. g; ends = λ e. (rw (append-nil bytes) at (g [])) ∙ stopped k' h' [] e }

-- some, and then others
pub took_then : (m n : ℕ) (k l p : Kept) (h i j : List ℕ) → Took m k h l i → is_going l.day.reading ≡ true → Took n l i p j → Took (m + n) k h p j
took_then m n k l p h i j a e b = record {
  bytes = a.bytes ++ b.bytes;
  few = simp length-append (omega (arith, a.few, b.few));
  goes = λ f. goes_then k l p h i j a.bytes b.bytes (a.goes e) (b.goes f);
  ends = λ f. a.goes e b.bytes ∙ b.ends f;
}
