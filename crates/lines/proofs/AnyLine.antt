-- A line that reads as a snapshot is read as the frame of its book.
use Prim.Native.Nat.{ℕ}
use mathlib.Core.Option.{Option, none, some}
use mathlib.Core.Path.{◌≡◌, ap, ◌∙◌}
use native.Mathlib.Omega.{arith}
use Rattle.types.specs.Replies.{done}
use Rattle.orderbook.specs.declared.OrderBook.{OrderBook}
use Rattle.orderbook.specs.Apply.{Change}
use Rattle.frames.specs.Frames.{Frame, delta, snapshot, snapshot_of}
use Rattle.lines.specs.Read.{Read, read_as, snapshot_read}
use Rattle.lines.proofs.Booked.{snapshot_book}

pub as-snapshot :
    (o : Option Frame) (b : OrderBook) → ◌≡◌ {A = Change} (record { book = b; reply = done tt }) (snapshot_read o) →
    ◌≡◌ {A = Read} (record { reply = done (snapshot (snapshot_of b)); book = b }) (read_as o)
as-snapshot none b e = let r = ap (λ (c : Change). c.reply) e in let z : ◌≡◌ {A = ℕ} 0 1 = cc in absurd (omega arith)
as-snapshot (some (delta x)) b e = let r = ap (λ (c : Change). c.reply) e in let z : ◌≡◌ {A = ℕ} 0 1 = cc in absurd (omega arith)
as-snapshot (some (snapshot s)) b e =
    let z = ap (λ (c : Change). c.book) e in
    λ i. record { reply = done (snapshot ((ap snapshot_of z ∙ snapshot_book s) i)); book = z i }
