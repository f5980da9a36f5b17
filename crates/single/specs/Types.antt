-- The calls of crate types.
use Rattle.types.proofs as C
use Rattle.types.proofs.Once.{one_answer}
use Rattle.single.specs.One.{One, one}

-- the tests of limits
module _ where
  pub is_price_lem : One C.is_price.Reads.Learnt
  is_price_lem κs a s t = one _

  pub is_quantity_lem : One C.is_quantity.Reads.Learnt
  is_quantity_lem κs a s t = one _

-- sides, by a flag and as numbers
module _ where
  pub side_of_lem : One C.SideFromBool.from.Reads.Learnt
  side_of_lem κs a s t = one _

  pub side_number_lem : One C.U64FromSide.from.Reads.Learnt
  side_number_lem κs a s t = one _

  pub side_named_lem : One C.SideTryFromU64.try_from.Reads.Learnt
  side_named_lem κs a s t = one_answer _
