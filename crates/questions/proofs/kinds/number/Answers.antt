-- `kinds::number` meets its contract: each question is answered by the function of its clause, and 1 answers of a record that is no book.
use native.Mathlib.Omega.{arith}
use mathlib.Core.Path.{sym, refl}
use Rattle.types.specs.declared.Side.TheVariants.{Bid, Ask}
use Rattle.types.proofs.Booleans.{failed}
use Rattle.levels.proofs.Tables.{levels-length}
use Rattle.sides.proofs.Volumes.{limited, counted}
use Rattle.asked.proofs.Ticks.{prices_fit, tick_lent}
use Rattle.questions.specs.Questions.{spread, total_levels, sequence_of, tick_size}
use Rattle.orderbook.proofs.Books.{behind, lent_side}
use Rattle.questions.proofs.Asks.{number-none}
use Rattle.questions.proofs.kinds.number.Goals as goal

pub returns-then-not-is_book : goal.returns-then-not-is_book
returns-then-not-is_book c = sym (number-none _ (failed c.is_book.ensures c.if-not-is_book.true-raw) c.args.question)

pub best_of-requires : goal.best_of-requires
best_of-requires c = ((behind c.args.book c.is_book.ensures c.if-not-is_book.false-raw).side Bid).few

pub best_of-requires-in-Spread : goal.best_of-requires-in-Spread
best_of-requires-in-Spread c = ((behind c.args.book c.is_book.ensures c.if-not-is_book.false-raw).side Ask).few

pub spread-requires : goal.spread-requires
spread-requires c = rw (c.best_of.ensures, c.best_of-in-Spread.ensures) (behind c.args.book c.is_book.ensures c.if-not-is_book.false-raw).apart

pub overflow_add-result : goal.overflow_add-result
overflow_add-result c = let k = behind c.args.book c.is_book.ensures c.if-not-is_book.false-raw in omega (arith, (k.side Bid).few, (k.side Ask).few)

pub tick_size-requires : goal.tick_size-requires
tick_size-requires c = let k = behind c.args.book c.is_book.ensures c.if-not-is_book.false-raw in (prices_fit (lent_side k Bid c.args.book.bids refl).known, prices_fit (lent_side k Ask c.args.book.asks refl).known)

pub returns-in-Spread : goal.returns-in-Spread
unfolding spread
returns-in-Spread c = rw (c.in-Spread.is, (behind c.args.book c.is_book.ensures c.if-not-is_book.false-raw).is, c.spread.ensures, c.best_of-in-Spread.ensures, c.best_of.ensures)

pub returns-in-TotalLevels : goal.returns-in-TotalLevels
unfolding total_levels
returns-in-TotalLevels c =
    let k = behind c.args.book c.is_book.ensures c.if-not-is_book.false-raw in
    rw (c.in-TotalLevels.is, k.is, counted _ _ _ (limited (lent_side k Bid c.args.book.bids refl).known), counted _ _ _ (limited (lent_side k Ask c.args.book.asks refl).known))

pub returns-in-Sequence : goal.returns-in-Sequence
unfolding sequence_of
returns-in-Sequence c = rw (c.in-Sequence.is, (behind c.args.book c.is_book.ensures c.if-not-is_book.false-raw).is)

pub returns-in-TickSize : goal.returns-in-TickSize
unfolding tick_size
returns-in-TickSize c =
    let k = behind c.args.book c.is_book.ensures c.if-not-is_book.false-raw in
    rw (c.in-TickSize.is, k.is, c.tick_size.ensures, tick_lent (lent_side k Bid c.args.book.bids refl).known (lent_side k Ask c.args.book.asks refl).known)
