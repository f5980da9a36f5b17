-- What a receiver answers: 1, 2 or 16 before all else, then what its book answers.
use Rattle.std.specs.Prelude.{ℕ, cond, List, [], leb}
use Rattle.types.specs.Replies.{Reply, done, refused}
use Rattle.listings.specs.declared.Listing.{Listing}
use Rattle.listings.specs.Listed.{numbers_of}
use Rattle.questions.specs.declared.Question.{Question}
use Rattle.questions.specs.declared.Value.{Value}
use Rattle.questions.specs.Asked.{book_ask}
use Rattle.receiver.specs.declared.State.{State}
use Rattle.receiver.specs.declared.State.TheVariants.{Waiting, Live}
use Rattle.receiver.specs.declared.Receiver.{Receiver}

-- a shut gate: 1 and 2 come first, and its own reply is in the place of all else
unfoldable pub shut : {A : Type 0} → Reply A → Reply A → Reply A
shut own (done a) = own
shut own (refused n vs) = cond (leb n 2) (refused n vs) own

-- a state's gate: the book's own answer while live, 16 while waiting
unfoldable pub gate : {A : Type 0} → State → Reply A → Reply A
gate Live x = x
gate Waiting x = shut (refused 16 []) x

-- the reply of a receiver to a question
abbrev pub receiver_ask : Receiver → Question → Reply Value
receiver_ask r q = gate r.state (book_ask r.book q)

-- the numbers that a receiver lists of its book
abbrev pub receiver_numbers : Listing → Receiver → Reply (List ℕ)
receiver_numbers l r = gate r.state (numbers_of l r.book)
