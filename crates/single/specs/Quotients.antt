-- The call of crate quotient.
use Rattle.quotient.proofs as C
use Rattle.types.proofs.Once.{one_answer}
use Rattle.single.specs.One.{One}

-- a quotient or a refusal
module _ where
  pub ratio_over : One C.Quotient.over.Reads.Learnt
  ratio_over κs a s t = one_answer _
