-- Book K, for Rust and C: answers as numbers, and numbers that name nothing.
use Rattle.std.specs.Prelude.{◌≡◌, refl, [], ◌∷◌, pos}
use Rattle.types.specs.Replies.{done, refused}
use Rattle.told.specs.Numbers.{told, tell}
use Rattle.levels.specs.Order.{leads, in_order}
use Rattle.levels.specs.Table.{level, table}
use Rattle.levels.specs.Formed.{every, well_formed}
use Rattle.sides.specs.Best.{best_of, is_apart}
use Rattle.sides.specs.Questions.{best_level}
use Rattle.orderbook.specs.declared.OrderBook.{OrderBook}
use Rattle.orderbook.specs.Book.{sides_fit}
use Rattle.orderbook.specs.Apply.{kept}
use Rattle.orderbook.specs.Examples.{book_k}
use Rattle.listings.specs.Listed.{listed, woven, between, turned}
use Rattle.listings.specs.Numbered.{listing_named}
use Rattle.questions.specs.Questions.{sequence_of, best}
use Rattle.questions.specs.Numbered.{question_named}
use Rattle.questions.specs.Asked.{values_in, book_ask}
use Rattle.lines.specs.Read.{read_as}
use Rattle.receiver.specs.Turns.{taken}
use Rattle.receiver_questions.specs.Gate.{shut, gate}
use Rattle.std.proofs.Math.Option.{none}
use Rattle.numbered.specs.Books.{applied_by, cleared_by, asked_by, listed_by}
use Rattle.exports.specs.Feeds.{line_told, delta_line_by}
use Rattle.exports.specs.Receivers.{held_ask, held_numbers, taken_by}

-- question 13 is the sequence, question 0 the best level of a side
asked :
    (tell values_in (asked_by (book_k 5) 13 0 0 0) ≡ told 0 (pos 5 ∷ [])) × (tell values_in (asked_by (book_k 5) 0 1 0 0) ≡ told 0 (pos 101 ∷ pos 4 ∷ []))
unfolding asked_by question_named book_ask sequence_of best best_level sides_fit well_formed in_order leads every best_of is_apart
asked = (refl, refl)

-- listing 0 is a side's best levels, and 2 a range of prices, upward
listings :
    (listed_by (book_k 5) 0 1 1 0 ≡ done (101 ∷ 4 ∷ [])) × (listed_by (book_k 5) 2 0 98 99 ≡ done (98 ∷ 10 ∷ 99 ∷ 0 ∷ []))
unfolding listed_by listing_named listed woven between turned sides_fit well_formed in_order leads every best_of is_apart
listings = (refl, refl)

-- there is no side 2, no action 2, no question 28, no listing 3, and no price of more than 32 bits
unnamed :
    (asked_by (book_k 5) 13 2 0 0 ≡ refused 2 []) × (asked_by (book_k 5) 28 0 0 0 ≡ refused 2 []) × (listed_by (book_k 5) 3 0 1 1 ≡ refused 2 []) ×
    (listed_by (book_k 5) 2 0 4294967296 99 ≡ refused 2 []) × (applied_by (book_k 5) 2 0 99 1 6 ≡ kept (book_k 5) 2 []) ×
    (applied_by (book_k 5) 0 2 99 1 6 ≡ kept (book_k 5) 2 []) × (cleared_by (book_k 5) 2 ≡ kept (book_k 5) 2 []) × (delta_line_by 0 2 99 1 6 ≡ refused 2 [])
unfolding asked_by question_named listed_by listing_named listed applied_by cleared_by delta_line_by sides_fit well_formed in_order leads every best_of is_apart
unnamed = (refl, refl, refl, refl, refl, refl, refl, refl)

-- a best bid at the best ask is no book: 1 comes before 2
abbrev crossed : OrderBook
crossed = record { bids = table (level 101 1 ∷ []); asks = table (level 101 1 ∷ []); sequence = 0 }

no_book :
    (asked_by crossed 28 2 0 0 ≡ refused 1 []) × (listed_by crossed 2 0 4294967296 99 ≡ refused 1 []) × (applied_by crossed 2 2 0 0 0 ≡ kept crossed 1 [])
unfolding asked_by question_named listed_by listing_named listed applied_by sides_fit well_formed in_order leads every best_of is_apart
no_book = (refl, refl, refl)

-- a receiver: state 0 waits, and state 2 is no receiver's, whatever is asked
waiting :
    (held_ask (record { state = 0; book = book_k 5 }) 13 0 0 0 ≡ refused 16 []) × (held_ask (record { state = 2; book = book_k 5 }) 28 0 0 0 ≡ refused 1 []) ×
    (held_numbers (record { state = 1; book = book_k 5 }) 0 1 1 0 ≡ done (101 ∷ 4 ∷ [])) ×
    (taken_by (record { state = 2; book = book_k 5 }) [] ≡ record { receiver = record { state = 2; book = book_k 5 }; told = told 1 [] })
unfolding held_ask held_numbers taken_by question_named listing_named shut gate book_ask sequence_of listed woven sides_fit well_formed in_order leads every best_of is_apart
waiting = (refl, refl, refl, refl)

-- a line that is no frame is 12
damaged : (line_told (read_as none)).told ≡ told 12 []
damaged = refl
