-- What the numbers of a call name: a side is 0 or 1, and numbers that name nothing are 2.
use Rattle.std.specs.Prelude.{ℕ, ◌&&◌, leb}
use Rattle.types.specs.Replies.{Reply, done, refused, if_within}
use Rattle.types.specs.Named.{side_named}
use Rattle.types.specs.declared.Side.{Side}
use Rattle.deltas.specs.declared.BookDelta.{BookDelta}
use Rattle.deltas.specs.Delta.{action_named}
use Rattle.listings.specs.declared.Listing.{Listing}
use Rattle.listings.specs.Numbered.{listing_named}
use Rattle.orderbook.specs.declared.OrderBook.{OrderBook}
use Rattle.orderbook.specs.Book.{of_book}
use Rattle.questions.specs.declared.Question.{Question}
use Rattle.questions.specs.Numbered.{question_named}

-- a side
abbrev pub side_by : ℕ → Reply Side
side_by side = if_within (leb side 1) (done (side_named side))

-- a delta: its action is 0 or 1
abbrev pub delta_by : ℕ → ℕ → ℕ → ℕ → ℕ → Reply BookDelta
delta_by side action price quantity sequence =
    if_within (leb side 1 && leb action 1)
    (done (record { side = side_named side; price = price; quantity = quantity; action = action_named action; sequence = sequence }))

-- a question: they are 0 to 27
abbrev pub question_by : ℕ → ℕ → ℕ → ℕ → Reply Question
question_by question side small large = if_within (leb side 1) (question_named question (side_named side) small large)

-- a listing: they are 0 to 2
abbrev pub listing_by : ℕ → ℕ → ℕ → ℕ → Reply Listing
listing_by listing side from to = if_within (leb side 1) (listing_named listing (side_named side) from to)

-- the reply to what is named; where nothing is, 1 if the record is no book, else 2
abbrev pub reply_to : {A B : Type 0} → OrderBook → (A → Reply B) → Reply A → Reply B
reply_to b f (done a) = f a
reply_to b f (refused n vs) = of_book b (refused n vs)
