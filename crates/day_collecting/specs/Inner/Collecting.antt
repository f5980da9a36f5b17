-- What is kept of the text of a day, byte by byte.
use Rattle.std.specs.Prelude.{ℕ, ◌≤◌, ◌<◌, true, false, cond, ◌≡◌, List, [], ◌∷◌, ◌++◌, eqb, ltb, ℤ, length, None}
use Rattle.day_lines.specs.Lines.{max_line}
use Rattle.day_keeping.specs.declared.Collected.{Collected}
use Rattle.day_keeping.specs.declared.Reading.TheVariants.{Going}
use Rattle.day_keeping.specs.Inner.Keeping.{is_going, Kept, finished, spoilt, with, line_ended}

-- at the end of the text, the bytes behind the last line feed are a line
abbrev pub last_ended : List ℕ → Kept → Kept
last_ended [] k = with k (finished k.day)
last_ended (b ∷ bs) k = let m = line_ended (b ∷ bs) k in with m (finished m.day)

-- the bytes of a text, one by one, behind those of a line that are held: a line feed ends the line, and a line has so many bytes at most
unfoldable pub text_taken : Kept → List ℕ → List ℕ → Kept
text_taken k held [] = cond (is_going k.day.reading) (last_ended held k) k
text_taken k held (b ∷ bs) =
    cond (is_going k.day.reading)
    (cond (eqb b 10)
    (text_taken (line_ended held k) [] bs)
    (cond (ltb (length held) max_line) (text_taken k (held ++ (b ∷ [])) bs) (with k (spoilt k.day))))
    k

-- bytes were taken: with whatever follows, what is kept comes to the same
abbrev pub Goes : Kept → List ℕ → List ℕ → Kept → List ℕ → Type 0
Goes k held bytes k' held' = (rest : List ℕ) → text_taken k held (bytes ++ rest) ≡ text_taken k' held' rest

-- ── as the code holds it ──

-- nothing is read yet
abbrev pub unread : Collected
unread = record { line = 1; opening = None; reading = Going }

-- and no fill is kept yet in this memory
abbrev pub none_kept : List ℤ → List ℕ → Kept
none_kept numbers lines = record { day = unread; fills = 0; numbers = numbers; lines = lines }

-- so many bytes at most were taken, and where nothing more is read the text ends with them
pub record Took (most : ℕ) (k : Kept) (held : List ℕ) (k' : Kept) (held' : List ℕ) : Type 0 where
  pub bytes : List ℕ
  pub few : length bytes ≤ most
  pub goes : is_going k'.day.reading ≡ true → Goes k held bytes k' held'
  pub ends : is_going k'.day.reading ≡ false → text_taken k held bytes ≡ k'

-- this is what is kept of a text, in memory that has room for 100,000 fills; a u64 counts its lines
pub record KeptOf (text : List ℕ) (k : Kept) : Type 0 where
  pub numbers : List ℤ
  pub lines : List ℕ
  pub room : (length numbers ≡ 500000) × (length lines ≡ 100000)
  pub counted : length text < 18446744073709551615
  pub whole : text_taken (none_kept numbers lines) [] text ≡ k
