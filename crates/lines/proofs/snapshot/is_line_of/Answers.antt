-- `lines::snapshot::is_line_of` meets its contract: the line is compared with the book's own.
use Prim.Native.Nat.{◌+◌, ◌*◌, ◌≤◌}
use mathlib.Core.Path.{◌≡◌, sym, ◌∙◌}
use borrow.Author.Rules.{rules}
use lib.ListN.{length}
use Rattle.orderbook.specs.declared.OrderBook.{OrderBook}
use Rattle.orderbook.specs.Inner.Long.{Long}
use Rattle.frames.specs.Frames.{snapshot, snapshot_of, encode}
use Rattle.frames.proofs.Reading.{same-told}
use Rattle.lines.proofs.Rows.{front}
use Rattle.lines.proofs.Booked.{book-length}
use Rattle.orderbook.specs.Lent.{book_in}
use Rattle.orderbook.proofs.Books.{long_rows}
use Rattle.lines.proofs.snapshot.is_line_of.Goals as goal

-- the length of the book's line
own-length : (b : OrderBook) → Long b → (b.bids.count ≤ 128) × (b.asks.count ≤ 128) → length (encode (snapshot (snapshot_of b))) ≡ 25 + 16 * (b.bids.count + b.asks.count)
own-length b w k = book-length b w k.0 k.1

pub returns : goal.returns
returns c =
    let b = book_in c.args.lent in
    let w = long_rows c.args.lent in
    let n = own-length b w c.requires in
    let e = front c.put_snapshot.new.out (encode (snapshot (snapshot_of b))) _ _ c.put_snapshot.ensures n in
    same-told c.same.result c.args.line.now (encode (snapshot (snapshot_of b))) (λ t. c.same.ensures.0 t ∙ e)
    (λ e'. c.same.ensures.1 (e' ∙ sym e))
