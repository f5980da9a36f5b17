-- The calls of crate told: any answer as numbers, or its refusal.
use denote.RattleType.{RattleType}
use denote.Param.Laws.{Laws}
use mir.Syntax.{Dict}
use Rattle.told.specs.declared.answers.Tells.{Ghosts}
use Rattle.told.proofs.Told as T
use Rattle.told.proofs.answers as A
use Rattle.single.specs.One.{One, one}

-- of any kind, whatever it carries
module _ (K : RattleType) (laws : Laws K) (carried : Ghosts K.Denot) (code : Dict) where
  pub of : One (T.of.Reads.Learnt K laws carried code)
  of κs a s t = one _

-- a refusal
module _ where
  pub of_refusal : One A.ToldFromRefusal.from.Reads.Learnt
  of_refusal κs a s t = one _

-- a number or an amount as its size and its sign
module _ where
  pub whole_of_number : One A.WholeFromU64.from.Reads.Learnt
  whole_of_number κs a s t = one _

  pub whole_of_amount : One A.WholeFromAmount.from.Reads.Learnt
  whole_of_amount κs a s t = one _

-- and what each kind of answer carries
module _ where
  pub of_outcome : One A.UnitTells.told.Reads.Learnt
  of_outcome κs a s t = one _

  pub of_number : One A.U64Tells.told.Reads.Learnt
  of_number κs a s t = one _

  pub of_flag : One A.BoolTells.told.Reads.Learnt
  of_flag κs a s t = one _

  pub of_level : One A.PriceLevelTells.told.Reads.Learnt
  of_level κs a s t = one _

  pub of_quote : One A.QuoteTells.told.Reads.Learnt
  of_quote κs a s t = one _

  pub of_amount : One A.AmountTells.told.Reads.Learnt
  of_amount κs a s t = one _

  pub of_ratio : One A.QuotientTells.told.Reads.Learnt
  of_ratio κs a s t = one _
