-- What a shut gate lets through, and the cases that a match leaves to its last arm.
use mathlib.Core.Bool.{false, cond}
use mathlib.Core.Path.{◌≡◌, refl}
use lib.Dec.{leb}
use Rattle.types.specs.Replies.{Reply, number_of, refuse}
use Rattle.types.specs.declared.Refusal.{Refusal}
use Rattle.types.specs.declared.Refusal.TheVariants as R
use Rattle.types.proofs.Booleans.{by}
use Rattle.receiver_questions.specs.Gate.{shut}

-- no refusal after 2 passes
pub later : (r : Refusal) → (r ≡ R.NotARecord → ⊥) → (r ≡ R.OutOfLimits → ⊥) → leb (number_of r) 2 ≡ false
later = elim [
  | R.NotARecord ↦ λ h k. absurd (h refl)
  | R.OutOfLimits ↦ λ h k. absurd (k refl)
  | R.LastSequence ↦ λ h k. refl
  | R.SequenceMismatch expected got ↦ λ h k. refl
  | R.InvertedSpread bid ask ↦ λ h k. refl
  | R.FullSide ↦ λ h k. refl
  | R.InsufficientLiquidity target ↦ λ h k. refl
  | R.InsufficientFunds need have ↦ λ h k. refl
  | R.PastLimit ↦ λ h k. refl
  | R.NoValue ↦ λ h k. refl
  | R.NoRoom ↦ λ h k. refl
  | R.DamagedLine ↦ λ h k. refl
  | R.Unpriced symbol ↦ λ h k. refl
  | R.OldFrame ↦ λ h k. refl
  | R.Gap ↦ λ h k. refl
  | R.Waiting ↦ λ h k. refl
  | R.RefusedDelta ↦ λ h k. refl
]

-- the refusal kept is the one that passes, or the gate's own
pub kept_passes : {A : Type 0} (own why r : Refusal) → r ≡ cond (leb (number_of why) 2) why own → refuse {A = A} r ≡ shut (refuse own) (refuse why)
unfolding shut
kept_passes own why r e = rw e (by (leb (number_of why) 2) (λ t. rw t) (λ t. rw t))
