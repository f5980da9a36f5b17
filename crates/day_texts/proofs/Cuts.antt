-- The lines of a text behind bytes of a line that are held already.
use Prim.Native.Nat.{ℕ, ◌<◌}
use mathlib.Core.Bool.{true, false}
use mathlib.Core.Path.{◌≡◌, refl, sym, ap}
use mathlib.Core.List.{List, [], ◌∷◌, ◌++◌, append-nil, append_assoc}
use lib.Dec.{eqb}
use lib.ListN.{length, length-append}
use native.Mathlib.Omega.{arith}
use Rattle.types.specs.Bytes.{onto}
use Rattle.day_texts.specs.Texts.{lines_of}

-- these bytes are a line, if there are any
abbrev pub alone : List ℕ → List (List ℕ)
alone [] = []
alone (b ∷ bs) = (b ∷ bs) ∷ []

-- these bytes stand before the first line
abbrev pub behind : List ℕ → List (List ℕ) → List (List ℕ)
behind held [] = alone held
behind held (l ∷ ls) = (held ++ l) ∷ ls

-- none are held
pub behind-none : (ls : List (List ℕ)) → behind [] ls ≡ ls
behind-none [] = refl
behind-none (l ∷ ls) = refl

module _ (held : List ℕ) (b : ℕ) (bs : List ℕ) where
  -- a line feed ends the line that is held
  pub feed_ends : eqb b 10 ≡ true → behind held (lines_of (b ∷ bs)) ≡ held ∷ lines_of bs
  unfolding lines_of
  feed_ends e = rw (e, append-nil held)

  -- the first line, with another byte held
  byte_before : (ls : List (List ℕ)) → behind held (onto b ls) ≡ behind (held ++ (b ∷ [])) ls
  byte_before [] = go held
    where
      go : (h : List ℕ) → ◌≡◌ {A = List (List ℕ)} ((h ++ (b ∷ [])) ∷ []) (alone (h ++ (b ∷ [])))
      go [] = refl
      go (x ∷ h) = refl
  byte_before (l ∷ ls) = ap (λ (x : List ℕ). x ∷ ls) (sym (append_assoc held (b ∷ []) l))

  pub byte_kept : eqb b 10 ≡ false → behind held (lines_of (b ∷ bs)) ≡ behind (held ++ (b ∷ [])) (lines_of bs)
  unfolding lines_of
  byte_kept e = rw e (byte_before (lines_of bs))

-- a line and those behind it, of which the first is longer than what is held
pub record Longer (held : List ℕ) (ls : List (List ℕ)) : Type 0 where
  pub line : List ℕ
  pub others : List (List ℕ)
  pub here : ls ≡ line ∷ others
  pub long : length held < length line

pub longer : (held : List ℕ) (b : ℕ) (bs : List ℕ) → eqb b 10 ≡ false → Longer held (behind held (lines_of (b ∷ bs)))
unfolding lines_of
longer held b bs e = rw e (go (lines_of bs))
  where
    go : (ls : List (List ℕ)) → Longer held (behind held (onto b ls))
    go [] = record { line = held ++ (b ∷ []); others = []; here = refl; long = simp length-append (omega arith) }
    go (l ∷ ls) = record { line = held ++ (b ∷ l); others = ls; here = refl; long = simp length-append (omega arith) }
