-- `rows::settle`: every total before and after the fill is far below 2^63, and each answer is what the tests so far say.
use native.Mathlib.Omega.{arith}
use Rattle.position.proofs.Ledgers.{a_ledger, held_in_lem}
use Rattle.holding.proofs.Holdings.{charge_size}
use Rattle.position.proofs.rows.settle.Goals as goal

pub sub-cash-requires : goal.sub-cash-requires
sub-cash-requires c = rw c.charge-need.ensures (omega (arith, a_ledger _ c.requires.0, charge_size c.args.fill c.requires.1))

pub add-requires : goal.add-requires
add-requires c = omega (arith, a_ledger _ c.requires.0, c.requires.1)

pub after_fill-after-requires : goal.after_fill-after-requires
after_fill-after-requires c = (rw c.at-before.ensures (held_in_lem _ c.requires.0 _ c.requires.1.symbol_in), c.requires.1)
