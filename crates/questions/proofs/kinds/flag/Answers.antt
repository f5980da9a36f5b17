-- `kinds::flag` meets its contract: each question is answered by the function of its clause, and 1 answers of a record that is no book.
use native.Mathlib.Omega.{arith}
use mathlib.Core.Path.{sym, refl, ap}
use Rattle.types.specs.declared.Side.TheVariants.{Bid, Ask}
use Rattle.levels.specs.declared.Levels.{Levels}
use Rattle.levels.specs.Table.{levels}
use Rattle.sides.specs.Questions as S
use Rattle.types.proofs.Booleans.{failed}
use Rattle.sides.proofs.Volumes.{limited, counted}
use Rattle.questions.specs.Questions.{has_price, is_empty}
use Rattle.orderbook.proofs.Books.{behind, lent_side}
use Rattle.questions.proofs.Asks.{flag_none, both_zero, never_crossed}
use Rattle.questions.proofs.kinds.flag.Goals as goal

pub returns-then-not-is_book : goal.returns-then-not-is_book
returns-then-not-is_book c = sym (flag_none _ (failed c.is_book.ensures c.if-not-is_book.true-raw) c.args.question)

pub has_price-requires : goal.has_price-requires
has_price-requires c = lent_side (behind c.args.book c.is_book.ensures c.if-not-is_book.false-raw) _ c.side.result c.side.ensures

pub overflow_add-result : goal.overflow_add-result
overflow_add-result c = let k = behind c.args.book c.is_book.ensures c.if-not-is_book.false-raw in omega (arith, (k.side Bid).few, (k.side Ask).few)

pub returns-in-HasPrice : goal.returns-in-HasPrice
unfolding has_price
returns-in-HasPrice c = rw (c.in-HasPrice.is, (behind c.args.book c.is_book.ensures c.if-not-is_book.false-raw).is, c.has_price.ensures) (ap (λ (t : Levels). S.has_price c.in-HasPrice.price (levels t)) c.side.ensures)

pub returns-in-IsEmpty : goal.returns-in-IsEmpty
unfolding is_empty
returns-in-IsEmpty c =
    let k = behind c.args.book c.is_book.ensures c.if-not-is_book.false-raw in
    rw (c.in-IsEmpty.is, k.is, counted _ _ _ (limited (lent_side k Bid c.args.book.bids refl).known), counted _ _ _ (limited (lent_side k Ask c.args.book.asks refl).known), both_zero)

pub returns-in-IsCrossed : goal.returns-in-IsCrossed
returns-in-IsCrossed c = rw c.in-IsCrossed.is (sym (never_crossed _ (behind c.args.book c.is_book.ensures c.if-not-is_book.false-raw).is))
