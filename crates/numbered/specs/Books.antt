-- The book for Rust and C: its changes and its answers, by numbers.
use Rattle.std.specs.Prelude.{ℕ, List}
use Rattle.types.specs.Replies.{Reply, done, refused}
use Rattle.types.specs.declared.Side.{Side}
use Rattle.told.specs.declared.Told.{Told}
use Rattle.told.specs.Numbers.{tell, nothing}
use Rattle.listings.specs.declared.Listing.{Listing}
use Rattle.listings.specs.Listed.{numbers_of}
use Rattle.orderbook.specs.declared.OrderBook.{OrderBook}
use Rattle.orderbook.specs.Book.{of_book}
use Rattle.orderbook.specs.Apply.{Change, applied, side_cleared}
use Rattle.questions.specs.declared.Value.{Value}
use Rattle.questions.specs.Asked.{book_ask}
use Rattle.names.specs.Names.{side_by, delta_by, question_by, listing_by, reply_to}

-- a book, and an answer in numbers
pub record BookTold : Type 0 where
  pub book : OrderBook
  pub told : Told

-- a book after a change, and the reply as numbers
abbrev pub book_told : Change → BookTold
book_told c = record { book = c.book; told = tell nothing c.reply }

-- the change that is named; where none is, the book as it was, refused as an answer is
abbrev pub changed_to : {A : Type 0} → OrderBook → (A → Change) → Reply A → Change
changed_to b f (done a) = f a
changed_to b f (refused n vs) = record { book = b; reply = of_book b (refused n vs) }

-- apply_delta
unfoldable pub applied_by : OrderBook → ℕ → ℕ → ℕ → ℕ → ℕ → Change
applied_by b side action price quantity sequence = changed_to b (applied b) (delta_by side action price quantity sequence)

-- remove_all
unfoldable pub cleared_by : OrderBook → ℕ → Change
cleared_by b side = changed_to b (λ (s : Side). side_cleared s b) (side_by side)

-- a question
unfoldable pub asked_by : OrderBook → ℕ → ℕ → ℕ → ℕ → Reply Value
asked_by b question side small large = reply_to b (book_ask b) (question_by question side small large)

-- the numbers of a listing
unfoldable pub listed_by : OrderBook → ℕ → ℕ → ℕ → ℕ → Reply (List ℕ)
listed_by b listing side from to = reply_to b (λ (l : Listing). numbers_of l b) (listing_by listing side from to)
