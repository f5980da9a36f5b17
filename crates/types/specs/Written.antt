-- Numbers written at the front of memory that a call is lent: what the call answers, and what it leaves there.
use Rattle.std.specs.Prelude.{ℕ, cond, List, [], ◌++◌, leb, length, drop}
use Rattle.types.specs.Replies.{Reply, done, refused, map_reply}

-- an answer, and the content of the whole of the lent memory after it
pub record Left (A : Type 0) : Type 0 where
  pub answer : A
  pub memory : List ℕ

-- the numbers, if there is room for them: 11 if there is not, after every other refusal
abbrev pub fitted : ℕ → Reply (List ℕ) → Reply (List ℕ)
fitted room (done ns) = cond (leb (length ns) room) (done ns) (refused 11 [])
fitted room (refused n vs) = refused n vs

-- the numbers at the front, and behind them the memory as it was; a refusal leaves all of it as it was
abbrev pub overwritten : Reply (List ℕ) → List ℕ → List ℕ
overwritten (done ns) memory = ns ++ drop (length ns) memory
overwritten (refused n vs) memory = memory

-- how many numbers were written, or the refusal, and the memory after it
abbrev pub written : Reply (List ℕ) → List ℕ → Left (Reply ℕ)
written ns memory =
    record { answer = map_reply length (fitted (length memory) ns); memory = overwritten (fitted (length memory) ns) memory }
