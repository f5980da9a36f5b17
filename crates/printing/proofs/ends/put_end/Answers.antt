-- `put_end` meets its contract: while it is live, the head and the sides behind it.
use Rattle.std.proofs.Common.{arith, subst}
use Rattle.orderbook.specs.declared.OrderBook.{OrderBook}
use Rattle.decimals.specs.Decimals.{Puts}
use Rattle.decimals.proofs.Puts.{then}
use Rattle.receiver.specs.declared.State.TheVariants.{Live}
use Rattle.printing.specs.Printed.{state_text}
use Rattle.orderbook.specs.Lent.{book_in}
use Rattle.orderbook.proofs.Books.{long_rows}
use Rattle.printing.proofs.Texts.{end_short}
use Rattle.printing.proofs.ends.put_end.Goals as goal

pub put_head-next-requires : goal.put_head-next-requires
put_head-next-requires c = omega (arith, end_short (book_in c.rows-book.result) (long_rows c.rows-book.result))

pub returns : goal.returns
returns c =
    rw c.in-Live.is
    (subst (λ (b : OrderBook). Puts (state_text Live b) c.args.at c.args.out.now c.put_sides.new.out c.put_sides.result) c.rows-book.ensures
    (then _ _ _ _ _ _ _ _ c.put_head-next.ensures c.put_sides.ensures))
