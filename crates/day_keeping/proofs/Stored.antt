-- The number of a side that is stored is small.
use Prim.Native.Nat.{◌<◌}
use native.Mathlib.Omega.{arith}
use Rattle.types.specs.Named.{side_number}
use Rattle.types.specs.declared.Side.{Side}
use Rattle.types.specs.declared.Side.TheVariants.{Bid, Ask}

pub side_small : (s : Side) → side_number s < 2
side_small Bid = omega arith
side_small Ask = omega arith
