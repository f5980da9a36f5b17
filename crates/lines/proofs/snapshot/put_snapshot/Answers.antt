-- `lines::snapshot::put_snapshot` meets its contract: the parts join to the frame's bytes, and the check byte and line feed end its line.
use Prim.Native.Nat.{ℕ, ◌+◌, ◌^◌, ◌<◌, ◌≤◌}
use mathlib.Core.List.{List, []}
use mathlib.Core.Path.{◌≡◌}
use lib.ListN.{length}
use Rattle.wire.specs.Wire.{Part}
use Rattle.frames.specs.Frames.{level_bytes}
use Rattle.lines.specs.Inner.Tables.{Room}
use native.Mathlib.Omega.{arith}
use Rattle.levels.specs.Table.{levels}
use Rattle.levels.proofs.Tables.{levels-length}
use Rattle.orderbook.specs.declared.OrderBook.{OrderBook}
use Rattle.orderbook.specs.Lent.{book_in}
use Rattle.frames.specs.Frames.{snapshot_of}
use Rattle.lines.proofs.Rows.{side_sum, sums_fit, snapshot_written}
use Rattle.lines.proofs.snapshot.put_snapshot.Goals as goal

-- the rows' 128 places, of a book that is written
module _ {b : OrderBook} {out : List ℕ} (r : Room b out) where
  bids-length : length (levels b.bids) ≡ b.bids.count
  bids-length = let w = r.long in levels-length b.bids (record { ps = w.bid-prices; qs = w.bid_quantities }) r.few_bids

  asks-length : length (levels b.asks) ≡ b.asks.count
  asks-length = let w = r.long in levels-length b.asks (record { ps = w.ask-prices; qs = w.ask_quantities }) r.few_asks

-- the sums fit
sums : {b : OrderBook} {out l₀ l₁ l₂ l₃ : List ℕ} {at₁ at₂ s t u : ℕ} → Room b out → s ≤ 2816 →
    Part (level_bytes (levels b.bids) []) at₁ l₀ l₁ t → Part (level_bytes (levels b.asks) []) at₂ l₂ l₃ u → s + t + u < 2 ^ 64
sums {b = b} r s p q =
    sums_fit _ _ _ s (side_sum (levels b.bids) b.bids.count _ _ _ _ (bids-length r) r.few_bids p)
    (side_sum (levels b.asks) b.asks.count _ _ _ _ (asks-length r) r.few_asks q)

pub returns : goal.returns
returns c =
    let a = c.args in
    let b = book_in a.lent in
    let p = c.put_counts-sum in
    let q = c.put_levels-sum2 in
    let r = c.put_levels-sum3 in
    snapshot_written (snapshot_of b) b.bids.count b.asks.count a.out.now p.new.out q.new.out r.new.out c.finish.new.out
    p.result q.result r.result (bids-length c.requires) (asks-length c.requires)
    (rw c.counts.ensures at p.ensures) q.ensures r.ensures c.finish.ensures c.requires.room

pub overflow_add-sum : goal.overflow_add-sum
overflow_add-sum c =
    let s = sums c.requires c.put_counts-sum.ensures.small c.put_levels-sum2.ensures c.put_levels-sum3.ensures in
    omega arith

pub overflow_add-sum-2 : goal.overflow_add-sum-2
overflow_add-sum-2 c =
    let s = sums c.requires c.put_counts-sum.ensures.small c.put_levels-sum2.ensures c.put_levels-sum3.ensures in
    omega arith
