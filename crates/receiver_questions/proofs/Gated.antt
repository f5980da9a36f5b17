-- What a state's gate makes of numbers that are written: how many, and the memory after it.
use Prim.Native.Nat.{ℕ}
use mathlib.Core.Path.{◌≡◌, refl, sym, ap, ◌∙◌}
use mathlib.Core.List.{List, []}
use lib.Dec.{leb}
use lib.IntN.{ℤ}
use lib.ListN.{length}
use Rattle.types.specs.Replies.{Reply, done, refused, map_reply}
use Rattle.types.specs.Written.{Left, fitted, written}
use Rattle.types.proofs.Booleans.{by}
use Rattle.receiver.specs.declared.State.{State}
use Rattle.receiver.specs.declared.State.TheVariants.{Waiting, Live}
use Rattle.receiver_questions.specs.Gate.{shut, gate}

-- a shut gate before the answer is a shut gate before the numbers: 11 is behind it too
shut-fitted : (n : ℕ) (vs : List ℤ) (room : ℕ) (x : Reply (List ℕ)) → shut (refused n vs) (map_reply length (fitted room x)) ≡ map_reply length (fitted room (shut (refused n vs) x))
unfolding shut
shut-fitted n vs room (done ns) = by (leb (length ns) room) (λ e. rw e) (λ e. rw e)
shut-fitted n vs room (refused m ws) = by (leb m 2) (λ e. rw e) (λ e. rw e)

pub gate-fitted : (s : State) (room : ℕ) (x : Reply (List ℕ)) → gate s (map_reply length (fitted room x)) ≡ map_reply length (fitted room (gate s x))
unfolding gate
gate-fitted Live room x = refl
gate-fitted Waiting room x = shut-fitted 16 [] room x

-- numbers behind a shut gate are not written
shut-written : (n : ℕ) (vs : List ℤ) (memory : List ℕ) (x : Reply (List ℕ)) → (written (shut (refused n vs) x) memory).memory ≡ memory
unfolding shut
shut-written n vs memory (done ns) = refl
shut-written n vs memory (refused m ws) = by (leb m 2) (λ e. rw e) (λ e. rw e)

module _ (s : State) (memory : List ℕ) (x : Reply (List ℕ)) where
  -- waiting, the answer is the one without writing
  pub waiting-left :
      s ≡ Waiting → (answer : Reply ℕ) → answer ≡ map_reply length (fitted (length memory) (gate s x)) →
      ◌≡◌ {A = Left (Reply ℕ)} (record { answer = answer; memory = memory }) (written (gate s x) memory)
  unfolding gate
  waiting-left e answer a =
      let m : memory ≡ (written (gate s x) memory).memory = sym (rw e (shut-written 16 [] memory x)) in
      λ i. record { answer = a i; memory = m i }

  -- live, the book's numbers are written
  pub live_left : s ≡ Live → written x memory ≡ written (gate s x) memory
  unfolding gate
  live_left e = rw e
