-- Laws of what a call writes at the front of lent memory: nothing, or all that it has to write.
use Prim.Native.Nat.{ℕ, ◌<◌, ◌≤◌}
use mathlib.Core.Path.{◌≡◌, sym, ap, ◌∙◌}
use mathlib.Core.List.{List, [], ◌++◌}
use native.Mathlib.Omega.{arith}
use borrow.Author.Tests.{le-leb, lt-leb}
use lib.ListN.{length, drop}
use Rattle.types.specs.Replies.{Reply, done, refused}
use Rattle.types.specs.Written.{Left, written}

module _ (x : Reply (List ℕ)) (memory : List ℕ) where
  -- a refusal that comes before the room
  pub none_written : (n : ℕ) → x ≡ refused n [] → ◌≡◌ {A = Left (Reply ℕ)} (record { answer = refused n []; memory = memory }) (written x memory)
  none_written n e = sym (ap (λ (y : Reply (List ℕ)). written y memory) e)

  -- too little room
  pub no_room : (l : List ℕ) → x ≡ done l → length memory < length l → ◌≡◌ {A = Left (Reply ℕ)} (record { answer = refused 11 []; memory = memory }) (written x memory)
  no_room l e h = sym (ap (λ (y : Reply (List ℕ)). written y memory) e ∙ rw (lt-leb _ _ h))

  -- all of it
  pub all-written : (l after : List ℕ) (n : ℕ) → x ≡ done l → length l ≡ n → n ≤ length memory → after ≡ l ++ drop n memory
      → ◌≡◌ {A = Left (Reply ℕ)} (record { answer = done n; memory = after }) (written x memory)
  all-written l after n e k h a =
      sym (ap (λ (y : Reply (List ℕ)). written y memory) e ∙ rw (le-leb (length l) (length memory) (omega arith), k, a))
