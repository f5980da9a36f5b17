-- `fills::earned`: the product fits.
use native.Mathlib.Omega.{arith}
use Rattle.holding.proofs.Holdings.{earned_in, earned_size}
use Rattle.holding.proofs.fills.earned.Goals as goal

pub times-requires : goal.times-requires
times-requires c =
    let f = c.args.fill in
    let h = c.requires in
    rw (c.gain_of.ensures, c.closed_lots.ensures) (omega (arith, earned_in c.args.grown f.side f.quantity h.0 h.1 h.2.price_in))

pub returns-clause-size : goal.returns-clause-size
returns-clause-size c =
    let f = c.args.fill in
    let h = c.requires in
    rw (c.times.ensures, c.gain_of.ensures, c.closed_lots.ensures) (earned_size c.args.grown f.side f.quantity h.0 h.1 h.2.price_in)
