-- `Ordered::run_start` meets its contract: the blocks whose last price is ahead hold as many prices ahead as they have places, and where a block's last
-- price was not ahead, those ahead end within the next block.
use Prim.Native.Nat.{◌+◌, ◌≤◌, ◌<◌}
use Rattle.levels.specs.Lent.{prices_in}
use Rattle.levels.specs.Order.{count_ahead}
use Rattle.levels.proofs.ordered.Ordered.run_start.Given as goal

abbrev pub invariant-loop-last : goal.invariant-loop-last
invariant-loop-last l = let k = count_ahead l.fn.self.side l.fn.price (prices_in l.fn.self) in (l.from ≤ k) × (l.from + 15 ≤ l.last) × (l.from + 15 < l.last → k < l.from + 16)
