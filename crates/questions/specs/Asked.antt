-- The reply to any question, one clause a question.
use Rattle.std.specs.Prelude.{ℕ, Bool, List, ℤ}
use Rattle.types.specs.Replies.{Reply, done, refuse, map_reply}
use Rattle.types.specs.declared.PriceLevel.{PriceLevel}
use Rattle.types.specs.declared.Quote.{Quote}
use Rattle.quotient.specs.declared.Quotient.{Quotient}
use Rattle.told.specs.Numbers.{one_number, yes_or_no, one_level, both_levels, one_ratio}
use Rattle.orderbook.specs.declared.OrderBook.{OrderBook}
use Rattle.questions.specs.Questions.{best, best_quote}
use Rattle.questions.specs.Kinds.{book_number, side_number, top_ratio, volume_ratio, trade_price, book_flag}
use Rattle.questions.specs.declared.Question.{Question}
use Rattle.questions.specs.declared.Question.TheVariants as Q
use Rattle.questions.specs.declared.Value.{Value}
use Rattle.questions.specs.declared.Value.TheVariants as V

-- what a value is told as: a level's price and quantity, the best bid's and then the best ask's, a ratio
abbrev pub values_in : Value → List ℤ
values_in (V.Number x) = one_number x
values_in (V.Flag x) = yes_or_no x
values_in (V.Level x) = one_level x
values_in (V.Quote x) = both_levels x
values_in (V.Ratio x) = one_ratio x

-- the reply of a book to a question
unfoldable pub book_ask : OrderBook → Question → Reply Value
book_ask b (Q.Best s) = map_reply V.Level (best s b)
book_ask b Q.BestQuote = map_reply V.Quote (best_quote b)
book_ask b (Q.Number q) = map_reply V.Number (book_number q b)
book_ask b (Q.OfSide s q) = map_reply V.Number (side_number s q b)
book_ask b (Q.OfTops q) = map_reply V.Ratio (top_ratio q b)
book_ask b (Q.OfVolumes q) = map_reply V.Ratio (volume_ratio q b)
book_ask b (Q.Traded s trade) = map_reply V.Ratio (trade_price trade s b)
book_ask b (Q.Flag q) = map_reply V.Flag (book_flag q b)
