-- `rows::apply_to_book` meets its contract: the step of a delta that is admitted is done on its own side's rows.
use mathlib.Core.Path.{◌≡◌}
use mathlib.Core.Bool.{true}
use Rattle.types.specs.declared.Side.{Side}
use Rattle.types.specs.declared.Side.TheVariants.{Bid, Ask}
use Rattle.changes.specs.Inner.Edits.{EditFits, edit_of}
use Rattle.deltas.specs.declared.BookDelta.{BookDelta}
use Rattle.orderbook.specs.declared.OrderBook.{OrderBook}
use Rattle.orderbook.specs.Book.{is_book, side_of}
use Rattle.orderbook.specs.Apply.{tried, applied}
use Rattle.orderbook.specs.Inner.Long.{Long}
use Rattle.orderbook.proofs.Books.{a_book}
use Rattle.orderbook.proofs.Steps.{Sides, sides, Rows, both-rows, carried, step_on, in_rows, step_fits, step_done}
use Rattle.orderbook.proofs.rows.apply_to_book.Goals as goal

-- what is known of a book whose rows are lent
module _ (b : OrderBook) (d : BookDelta) (h : is_book b ≡ true) (l : Long b) where
  both : (s : Side) → Sides s b
  both s = sides s b h

  long : (s : Side) → Rows s b
  long s = both-rows s (record { book = a_book b h; long = l })

  fits : (s : Side) → EditFits (edit_of (step_on s b d)) (side_of s b).count
  fits s = step_fits s b (both s) (long s) d

  change : (s : Side) → d.side ≡ s → carried s (step_on s b d) b d ≡ tried b d
  change s own = step_done s b (both s) (long s) d own

pub apply_side-requires : goal.apply_side-requires
apply_side-requires c =
    let h = c.requires in
    ((long _ c.args.delta h.0 h.1 Bid).own.qs, in_rows Bid _ (both _ c.args.delta h.0 h.1 Bid) (long _ c.args.delta h.0 h.1 Bid), rw c.top-best.ensures (fits _ c.args.delta h.0 h.1 Bid), h.2)

pub apply_side-requires-in-Ask : goal.apply_side-requires-in-Ask
apply_side-requires-in-Ask c =
    let h = c.requires in
    ((long _ c.args.delta h.0 h.1 Ask).own.qs, in_rows Ask _ (both _ c.args.delta h.0 h.1 Ask) (long _ c.args.delta h.0 h.1 Ask), rw c.top-best-in-Ask.ensures (fits _ c.args.delta h.0 h.1 Ask), h.2)

pub returns-in-Bid : goal.returns-in-Bid
unfolding applied
returns-in-Bid c =
    let h = c.requires in
    let d = c.apply_side.ensures in
    rw (h.0, d.prices, d.quantities, d.counts, d.outcome, c.top-best.ensures) (change _ c.args.delta h.0 h.1 Bid c.in-Bid.is)

pub returns-in-Ask : goal.returns-in-Ask
unfolding applied
returns-in-Ask c =
    let h = c.requires in
    let d = c.apply_side-in-Ask.ensures in
    rw (h.0, d.prices, d.quantities, d.counts, d.outcome, c.top-best-in-Ask.ensures) (change _ c.args.delta h.0 h.1 Ask c.in-Ask.is)
