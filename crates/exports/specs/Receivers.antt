-- The receiver for Rust and C: its state by a number, and what it answers.
use Rattle.std.specs.Prelude.{ℕ, Bool, cond, List, [], eqb, leb}
use Rattle.types.specs.Replies.{Reply, if_record}
use Rattle.told.specs.declared.Told.{Told}
use Rattle.told.specs.Numbers.{told, tell, nothing}
use Rattle.deltas.specs.declared.Counts.{Counts}
use Rattle.listings.specs.declared.Listing.{Listing}
use Rattle.orderbook.specs.Lent.{Row, book_at, lent_book}
use Rattle.questions.specs.declared.Value.{Value}
use Rattle.receiver.specs.declared.Receiver.{Receiver}
use Rattle.receiver.specs.Turns.{Turn, taken}
use Rattle.receiver_questions.specs.Gate.{receiver_ask, receiver_numbers}
use Rattle.names.specs.Names.{question_by, listing_by, reply_to}
use Rattle.receiver.specs.Numbers.{state_if, state_number}
use Rattle.exports.specs.declared.Held.{Held}

-- the record that bid prices, bid quantities, ask prices, ask quantities, a state's number and the counts make
abbrev pub held_at : List ℕ → List ℕ → List ℕ → List ℕ → ℕ → Counts → Held
held_at bp bq ap aq n c = record { state = n; book = book_at bp bq ap aq c }

-- a receiver that is lent as its rows to be read, with its state's number and its counts
abbrev pub lent_held : Row → Row → Row → Row → ℕ → Counts → Held
lent_held bp bq ap aq n c = record { state = n; book = lent_book bp bq ap aq c }

-- a state is 0 or 1
abbrev pub is_state : Held → Bool
is_state h = leb h.state 1

-- the receiver of a record
abbrev pub receiver_of : Held → Receiver
receiver_of h = record { state = state_if (eqb h.state 1); book = h.book }

-- the record of a receiver
abbrev pub held_of : Receiver → Held
held_of r = record { state = state_number r.state; book = r.book }

-- a receiver, and an answer in numbers
pub record HeldTold : Type 0 where
  pub receiver : Held
  pub told : Told

-- a receiver after a line, and the reply as numbers
abbrev pub held_told : Turn → HeldTold
held_told t = record { receiver = held_of t.receiver; told = tell nothing t.reply }

-- take_line: a state above 1 is no receiver's, so 1 and the record as it was
unfoldable pub taken_by : Held → List ℕ → HeldTold
taken_by h line = cond (is_state h) (held_told (taken (receiver_of h) line)) (record { receiver = h; told = told 1 [] })

-- a question: 1 if the record is no receiver, 2 if the numbers name nothing, then the receiver's answer
unfoldable pub held_ask : Held → ℕ → ℕ → ℕ → ℕ → Reply Value
held_ask h question side small large =
    if_record (is_state h) (reply_to h.book (receiver_ask (receiver_of h)) (question_by question side small large))

-- the numbers of a listing, refused as a question is
unfoldable pub held_numbers : Held → ℕ → ℕ → ℕ → ℕ → Reply (List ℕ)
held_numbers h listing side from to =
    if_record (is_state h) (reply_to h.book (λ (l : Listing). receiver_numbers l (receiver_of h)) (listing_by listing side from to))
