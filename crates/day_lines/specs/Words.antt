-- The words of a line: the bytes up to `#`, cut at blanks.
use Rattle.std.specs.Prelude.{ℕ, Bool, true, false, ◌||◌, cond, List, [], ◌∷◌, eqb, get_or}
use Rattle.types.specs.Bytes.{onto}

-- the bytes before the first `#`
unfoldable pub spoken : List ℕ → List ℕ
spoken [] = []
spoken (b ∷ bs) = cond (eqb b 35) [] (b ∷ spoken bs)

-- a space, a tab, a carriage return
abbrev pub is_blank : ℕ → Bool
is_blank b = eqb b 32 || (eqb b 9 || eqb b 13)

-- the parts of a text between its blanks; where blanks stand side by side, or at an end, a part is empty
unfoldable pub parts : List ℕ → List (List ℕ)
parts [] = [] ∷ []
parts (b ∷ bs) = cond (is_blank b) ([] ∷ parts bs) (onto b (parts bs))

-- the parts that are not empty
unfoldable pub not_empty : List (List ℕ) → List (List ℕ)
not_empty [] = []
not_empty ([] ∷ ps) = not_empty ps
not_empty ((b ∷ p) ∷ ps) = (b ∷ p) ∷ not_empty ps

-- the words of a text
abbrev pub words : List ℕ → List (List ℕ)
words s = not_empty (parts s)

-- the word of an index, from 0; no byte where there is none
abbrev pub word_at : List ℕ → ℕ → List ℕ
word_at s i = get_or (words s) i []

-- two words have the same bytes
abbrev pub alike : List ℕ → List ℕ → Bool
alike [] [] = true
alike [] (y ∷ ys) = false
alike (x ∷ xs) [] = false
alike (x ∷ xs) (y ∷ ys) = cond (eqb x y) (alike xs ys) false
