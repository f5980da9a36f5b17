-- `asked::depth::tick_size` meets its contract: the smallest gap of one side is where the other side's walk begins.
use Prim.Native.Nat.{◌+◌, ◌-◌, ◌<◌}
use mathlib.Core.Path.{sym}
use native.Mathlib.Omega.{arith}
use Rattle.asked.proofs.Ticks.{fit, tick_none, tick_some}
use Rattle.asked.proofs.depth.tick_size.Goals as goal
use Rattle.asked.proofs.depth.tick_size.Goals.{Joined-else-bids-lt2, else-bids-lt2-via-then-bids-lt2+else-asks-lt2, else-bids-lt2-via-else-bids-lt2}

-- one of the sides has two levels
two : (c : Joined-else-bids-lt2) → 0 < (c.args.bids.count - 1) + (c.args.asks.count - 1)
two c = elim c.else-bids-lt2.branch [ else-bids-lt2-via-then-bids-lt2+else-asks-lt2 w ↦ omega arith | else-bids-lt2-via-else-bids-lt2 w ↦ omega arith ]

pub returns-then-asks-lt2 : goal.returns-then-asks-lt2
returns-then-asks-lt2 c = let f = c.requires in sym (tick_none _ _ _ _ (fit f.0) (fit f.1) c.if-bids-lt2.true c.if-asks-lt2.true)

pub returns : goal.returns
returns c = let j = c in
    let f = j.requires in
    rw (c.smallest_gap.ensures, c.smallest_gap-least.ensures) (sym (tick_some _ _ _ _ (fit f.0) (fit f.1) (two c.before.before)))
