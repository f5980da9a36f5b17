-- `lines::snapshot::write_snapshot_at` meets its contract: the rows are tested, then the room, and then the line is put at the front.
use Prim.Native.Nat.{ℕ, ◌+◌, ◌*◌, ◌≤◌}
use mathlib.Core.Bool.{Bool, true}
use mathlib.Core.Path.{◌≡◌, sym, ap, ◌∙◌}
use mathlib.Core.List.{◌++◌}
use native.Mathlib.Omega.{arith}
use lib.ListN.{length, drop}
use Rattle.types.proofs.Writes.{none_written, no_room, all-written}
use Rattle.orderbook.specs.declared.OrderBook.{OrderBook}
use Rattle.orderbook.specs.Inner.Long.{Long}
use Rattle.orderbook.specs.Book.{is_book}
use Rattle.orderbook.specs.Lent.{book_in}
use Rattle.frames.specs.Frames.{snapshot, snapshot_of, encode}
use Rattle.frames.specs.Sent.{snapshot_line}
use Rattle.frames.proofs.Writing.{snapshot_line_lem, snapshot_refused}
use Rattle.lines.proofs.Booked.{book_counts, book-length}
use Rattle.types.proofs.Booleans.{passed, failed}
use Rattle.orderbook.proofs.Books.{long_rows}
use Rattle.lines.proofs.snapshot.write_snapshot_at.Goals as goal

-- the length of a book's line
long : (b : OrderBook) → Long b → is_book b ≡ true → length (encode (snapshot (snapshot_of b))) ≡ 25 + 16 * (b.bids.count + b.asks.count)
long b w is = let k = book_counts b is in book-length b w k.0 k.1

pub returns-then-out-n : goal.returns-then-out-n
returns-then-out-n c =
    let a = c.args in
    let b = book_in a.lent in
    let is = passed c.is_book.ensures c.if-not-is_book.false-raw in
    no_room (snapshot_line b) a.out.now (encode (snapshot (snapshot_of b))) (snapshot_line_lem b is)
    (omega (arith, long b (long_rows a.lent) is, c.if-out-n.true))

pub returns : goal.returns
returns c =
    let a = c.args in
    let b = book_in a.lent in
    let is = passed c.is_book.ensures c.if-not-is_book.false-raw in
    let l = encode (snapshot (snapshot_of b)) in
    let n = long b (long_rows a.lent) is in
    all-written (snapshot_line b) a.out.now l c.put_snapshot.new.out (25 + 16 * (b.bids.count + b.asks.count))
    (snapshot_line_lem b is) n (omega (arith, c.if-out-n.false)) (c.put_snapshot.ensures ∙ ap (λ (m : ℕ). l ++ drop m a.out.now) n)

pub returns-then-not-is_book : goal.returns-then-not-is_book
returns-then-not-is_book c =
    let a = c.args in
    let b = book_in a.lent in
    none_written (snapshot_line b) a.out.now 1 (snapshot_refused b (failed c.is_book.ensures c.if-not-is_book.true-raw))

pub overflow_add-n : goal.overflow_add-n
overflow_add-n c = let a = c.args in
    let k = book_counts (book_in a.lent) (passed c.is_book.ensures c.if-not-is_book.false-raw) in omega arith

pub overflow_mul-n : goal.overflow_mul-n
overflow_mul-n c = let a = c.args in
    let k = book_counts (book_in a.lent) (passed c.is_book.ensures c.if-not-is_book.false-raw) in omega arith

pub overflow_add-n-2 : goal.overflow_add-n-2
overflow_add-n-2 c = let a = c.args in
    let k = book_counts (book_in a.lent) (passed c.is_book.ensures c.if-not-is_book.false-raw) in omega arith

pub put_snapshot-requires : goal.put_snapshot-requires
put_snapshot-requires c = let a = c.args in
    let k = book_counts (book_in a.lent) (passed c.is_book.ensures c.if-not-is_book.false-raw) in
    record { long = (long_rows a.lent); few_bids = k.0; few_asks = k.1; room = omega (arith, c.if-out-n.false) }
