-- `lines::snapshot::read_snapshot` meets its contract: the line is a snapshot's if its counts fit, its tables are a book and the book has this line.
use mathlib.Core.Bool.{false≢true}
use Prim.Native.Nat.{ℕ, ◌≤◌}
use mathlib.Core.List.{List}
use mathlib.Core.Path.{◌≡◌, sym, ap, subst, ◌∙◌}
use Rattle.orderbook.specs.declared.OrderBook.{OrderBook}
use Rattle.frames.specs.Frames.{snapshot, snapshot_of, encode}
use Rattle.frames.specs.Decode.{same}
use native.Mathlib.Omega.{arith}
use borrow.Author.Tests.{not-true, not-false}
use Rattle.lines.proofs.Booked.{book_counts, not_counts, not-book, not_line, book-read}
use Rattle.lines.proofs.snapshot.read_snapshot.Goals as goal

-- the line of a book that is lent is the book's
own_line : (l : List ℕ) {b d : OrderBook} → b ≡ d → same l (encode (snapshot (snapshot_of b))) ≡ same l (encode (snapshot (snapshot_of d)))
own_line l e = ap (λ (x : OrderBook). same l (encode (snapshot (snapshot_of x)))) e

pub returns-then-line-lt25 : goal.returns-then-line-lt25
returns-then-line-lt25 c = not_counts c.args.line.now (λ k. omega (arith, c.if-line-lt25.true, k.long))

pub returns-then-not-counts_fit : goal.returns-then-not-counts_fit
returns-then-not-counts_fit c =
    not_counts c.args.line.now
    (λ k. false≢true (sym (not-true _ c.if-not-counts_fit.true-raw) ∙ c.counts_fit.ensures.1 (rw (c.field-bids.ensures, c.field-asks.ensures) k)))

pub returns-then-not-is_book : goal.returns-then-not-is_book
returns-then-not-is_book c =
    not-book c.args.line.now c.read_book-book.result c.read_book-book.ensures (sym c.is_book.ensures ∙ not-true _ c.if-not-is_book.true-raw)

pub returns-then-not-is_line_of : goal.returns-then-not-is_line_of
returns-then-not-is_line_of c =
    not_line c.args.line.now c.read_book-book.result c.read_book-book.ensures (sym (own_line c.args.line.now c.rows.ensures) ∙ sym c.is_line_of.ensures ∙ not-true _ c.if-not-is_line_of.true-raw)

pub returns : goal.returns
returns c =
    book-read c.args.line.now c.read_book-book.result c.read_book-book.ensures (sym c.is_book.ensures ∙ not-false _ c.if-not-is_book.false-raw)
    (sym (own_line c.args.line.now c.rows.ensures) ∙ sym c.is_line_of.ensures ∙ not-false _ c.if-not-is_line_of.false-raw)
