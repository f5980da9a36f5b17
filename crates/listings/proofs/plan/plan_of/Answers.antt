-- `plan::plan_of` meets its contract: of a book each listing takes its runs, and of another record nothing is taken.
use mathlib.Core.Path.{ap}
use lib.ListN.{take}
use Rattle.types.specs.declared.Side.TheVariants.{Bid, Ask}
use Rattle.types.specs.declared.Refusal.TheVariants as R
use Rattle.types.proofs.Booleans.{failed}
use Rattle.levels.specs.declared.Levels.{Levels}
use Rattle.orderbook.specs.Lent.{book_in}
use Rattle.orderbook.proofs.Books.{lent_book_tested, lent_side, long_rows}
use Rattle.listings.specs.Listed.{listed}
use Rattle.listings.proofs.Listings.{not_listed, best_plans, bids_plans, range-plans}
use Rattle.listings.proofs.Plans.{nothing_plans}
use Rattle.listings.proofs.plan.plan_of.Goals as goal

pub returns-then-not-is_book : goal.returns-then-not-is_book
unfolding listed
returns-then-not-is_book c =
    rw (c.nothing.ensures, not_listed c.args.listing (book_in c.args.book) (failed c.is_book.ensures c.if-not-is_book.true-raw))
    (nothing_plans (book_in c.args.book) (long_rows c.args.book) R.NotARecord)

pub best_runs-requires : goal.best_runs-requires
best_runs-requires c = let k = (lent_book_tested c.args.book c.is_book.ensures c.if-not-is_book.false-raw).book in rw c.counts.ensures ((k.side Bid).few, (k.side Ask).few)

pub best_runs-requires-in-Ask : goal.best_runs-requires-in-Ask
best_runs-requires-in-Ask c = let k = (lent_book_tested c.args.book c.is_book.ensures c.if-not-is_book.false-raw).book in rw c.counts-in-Ask.ensures ((k.side Bid).few, (k.side Ask).few)

pub best_runs-requires-in-Snapshot : goal.best_runs-requires-in-Snapshot
best_runs-requires-in-Snapshot c = let k = (lent_book_tested c.args.book c.is_book.ensures c.if-not-is_book.false-raw).book in rw c.counts-in-Snapshot.ensures ((k.side Bid).few, (k.side Ask).few)

pub range_runs-requires : goal.range_runs-requires
range_runs-requires c = lent_side (lent_book_tested c.args.book c.is_book.ensures c.if-not-is_book.false-raw).book _ c.side.result c.side.ensures

pub returns-in-Bid : goal.returns-in-Bid
unfolding listed
returns-in-Bid c =
    let t = (lent_book_tested c.args.book c.is_book.ensures c.if-not-is_book.false-raw) in
    rw (c.best_runs.ensures, c.counts.ensures, c.in-Top.is, c.in-Bid.is, t.book.is) (bids_plans t c.in-Top.n)

pub returns-in-Ask : goal.returns-in-Ask
unfolding listed
returns-in-Ask c =
    let t = (lent_book_tested c.args.book c.is_book.ensures c.if-not-is_book.false-raw) in
    rw (c.best_runs-in-Ask.ensures, c.counts-in-Ask.ensures, c.in-Top.is, c.in-Ask.is, t.book.is) (best_plans t 0 c.in-Top.n)

pub returns-in-Snapshot : goal.returns-in-Snapshot
unfolding listed
returns-in-Snapshot c =
    let t = (lent_book_tested c.args.book c.is_book.ensures c.if-not-is_book.false-raw) in
    let n = c.in-Snapshot.n in
    rw (c.best_runs-in-Snapshot.ensures, c.counts-in-Snapshot.ensures, c.in-Snapshot.is, t.book.is) (best_plans t n n)

pub returns-in-Between : goal.returns-in-Between
unfolding listed
returns-in-Between c =
    let t = (lent_book_tested c.args.book c.is_book.ensures c.if-not-is_book.false-raw) in
    rw (c.range_runs.ensures, c.in-Between.is, t.book.is, ap (λ (u : Levels). take u.count u.prices) c.side.ensures)
    (range-plans t c.in-Between.lo c.in-Between.hi c.in-Between.side)
