-- `Amount::of`: a number below 2^63 is its own bits.
use borrow.Author.Rules.{rules}
use mir.Facts.{to_z_pos}
use Rattle.amount.proofs.Amount.of.Goals as goal

pub returns : goal.returns
returns c = search (rules, to_z_pos)
