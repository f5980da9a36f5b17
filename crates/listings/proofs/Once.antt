-- A promise leaves one result: any two answers of a writer with the memory that they leave are equal.
use Rattle.std.specs.Prelude.{Result}
use Prim.Native.Nat.{ℕ}
use mathlib.Core.Path.{◌≡◌, ap, sym, ◌∙◌}
use mathlib.Core.List.{List}
use Rattle.types.specs.Replies.{Reply}
use Rattle.types.specs.Answers.{reply_of}
use Rattle.types.specs.Written.{Left}
use Rattle.types.proofs.Once.{one_answer}
use Rattle.types.specs.declared.Refusal.{Refusal}

pub one_left :
    (d : Left (Reply ℕ)) (x y : Result ℕ Refusal) (m n : List ℕ) →
    record { answer = reply_of x; memory = m } ≡ d →
    record { answer = reply_of y; memory = n } ≡ d →
    (x ≡ y) × (m ≡ n)
one_left d x y m n e f = (
  one_answer d.answer x y (ap (λ (u : Left (Reply ℕ)). u.answer) e) (ap (λ (u : Left (Reply ℕ)). u.answer) f),
  ap (λ (u : Left (Reply ℕ)). u.memory) (e ∙ sym f),
)
