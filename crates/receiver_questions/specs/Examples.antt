-- A receiver that holds book K: its answers live and waiting.
use Rattle.std.specs.Prelude.{◌≡◌, refl, [], ◌∷◌}
use Rattle.types.specs.Replies.{done, refused}
use Rattle.types.specs.Written.{fitted, written}
use Rattle.types.specs.declared.Side.TheVariants.{Bid, Ask}
use Rattle.levels.specs.Order.{leads, in_order}
use Rattle.levels.specs.Table.{level, table}
use Rattle.levels.specs.Formed.{every, well_formed}
use Rattle.sides.specs.Best.{best_of, is_apart}
use Rattle.orderbook.specs.Book.{sides_fit}
use Rattle.orderbook.specs.Examples.{book_k}
use Rattle.listings.specs.declared.Listing.TheVariants.{Top, Between}
use Rattle.listings.specs.Listed.{listed, woven}
use Rattle.asked.specs.declared.SideNumber.TheVariants.{DepthAt}
use Rattle.questions.specs.Questions.{sequence_of, depth_at}
use Rattle.questions.specs.declared.kinds.BookNumber.TheVariants.{Sequence}
use Rattle.questions.specs.declared.Question.TheVariants as Q
use Rattle.questions.specs.declared.Value.TheVariants as V
use Rattle.questions.specs.Asked.{book_ask}
use Rattle.receiver.specs.declared.State.{State}
use Rattle.receiver.specs.declared.State.TheVariants.{Waiting, Live}
use Rattle.receiver.specs.declared.Receiver.{Receiver}
use Rattle.receiver_questions.specs.Gate.{shut, gate, receiver_ask, receiver_numbers}

-- it holds book K at 5
abbrev holds_k : State → Receiver
holds_k s = record { state = s; book = book_k 5 }

-- a question: the book's answer while live, 16 while waiting
asked : (receiver_ask (holds_k Live) (Q.Number Sequence) ≡ done (V.Number 5)) × (receiver_ask (holds_k Waiting) (Q.Number Sequence) ≡ refused 16 [])
unfolding shut gate book_ask sequence_of sides_fit well_formed in_order leads every best_of is_apart
asked = (refl, refl)

-- no room: 11 while live, and 16, not 11, while waiting
no_room : (fitted 3 (receiver_numbers (Top Bid 2) (holds_k Live)) ≡ refused 11 []) × (fitted 3 (receiver_numbers (Top Bid 2) (holds_k Waiting)) ≡ refused 16 [])
unfolding shut gate listed woven sides_fit well_formed in_order leads every best_of is_apart
no_room = (refl, refl)

-- a waiting receiver writes nothing
writes :
    (written (receiver_numbers (Top Ask 1) (holds_k Live)) (7 ∷ 7 ∷ 7 ∷ []) ≡ record { answer = done 2; memory = 101 ∷ 4 ∷ 7 ∷ [] }) ×
    (written (receiver_numbers (Top Ask 1) (holds_k Waiting)) (7 ∷ 7 ∷ 7 ∷ []) ≡ record { answer = refused 16 []; memory = 7 ∷ 7 ∷ 7 ∷ [] })
unfolding shut gate listed woven sides_fit well_formed in_order leads every best_of is_apart
writes = (refl, refl)

-- a price of 0 is 2, waiting too
no_price : (receiver_ask (holds_k Waiting) (Q.OfSide Bid (DepthAt 0)) ≡ refused 2 []) × (fitted 0 (receiver_numbers (Between Bid 0 98) (holds_k Waiting)) ≡ refused 2 [])
unfolding shut gate book_ask depth_at listed sides_fit well_formed in_order leads every best_of is_apart
no_price = (refl, refl)

-- a best bid at the best ask is no book: 1 comes before 16
abbrev crossed : Receiver
crossed = record { state = Waiting; book = record { bids = table (level 101 1 ∷ []); asks = table (level 101 1 ∷ []); sequence = 0 } }

no_receiver : (receiver_ask crossed (Q.Number Sequence) ≡ refused 1 []) × (fitted 0 (receiver_numbers (Between Bid 0 98) crossed) ≡ refused 1 [])
unfolding shut gate book_ask sequence_of listed sides_fit well_formed in_order leads every best_of is_apart
no_receiver = (refl, refl)
