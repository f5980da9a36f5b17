-- Each answer to a line, in each state: the answer's number, and the state and the number held after it. Book K stands at sequence 5.
use Rattle.std.specs.Prelude.{ℕ, ◌≡◌, refl, List, [], ◌∷◌, ◌++◌, map}
use Rattle.std.proofs.Math.Option.{none, some}
use Rattle.types.specs.Replies.{Reply, done, refused}
use Rattle.types.specs.declared.Side.TheVariants.{Bid}
use Rattle.levels.specs.Order.{leads, in_order}
use Rattle.levels.specs.Table.{level, table}
use Rattle.levels.specs.Formed.{every, well_formed}
use Rattle.levels.specs.Change.{set_level}
use Rattle.deltas.specs.declared.DeltaAction.TheVariants.{Set}
use Rattle.sides.specs.Best.{best_of, is_apart}
use Rattle.orderbook.specs.declared.OrderBook.{OrderBook}
use Rattle.orderbook.specs.Book.{sides_fit, empty_book}
use Rattle.orderbook.specs.Apply.{tried, applied}
use Rattle.orderbook.specs.Examples.{book_k}
use Rattle.wire.specs.Wire.{digit, value, check_byte, line}
use Rattle.frames.specs.Frames.{Frame, delta, snapshot, snapshot_of, encode, is_whole}
use Rattle.frames.specs.Decode.{if_line_of, decode}
use Rattle.frames.specs.Examples.{line1, line2}
use Rattle.receiver.specs.declared.State.{State}
use Rattle.receiver.specs.declared.State.TheVariants.{Waiting, Live}
use Rattle.receiver.specs.declared.Receiver.{Receiver}
use Rattle.receiver.specs.Turns.{start, held, Turn, turn, taken, turns, heard}

-- the number of a reply
abbrev number : Reply (Unit {0}) → ℕ
number (done u) = 0
number (refused n vs) = n

-- what a turn came to
abbrev came_to : Turn → ℕ × State × ℕ
came_to t = (number t.reply, t.receiver.state, held t.receiver)

-- book K, held while waiting and while live
abbrev waiting : Receiver
waiting = record { state = Waiting; book = book_k 5 }

abbrev live : Receiver
live = record { state = Live; book = book_k 5 }

-- Set bid at a price, quantity 1: 97 is taken by book K, and 101 crosses it
abbrev bid : ℕ → ℕ → Frame
bid price sequence = delta (record { side = Bid; price = price; quantity = 1; action = Set; sequence = sequence })

-- a snapshot of book K at another number
abbrev whole : ℕ → Frame
whole sequence = snapshot (snapshot_of (book_k sequence))

-- 12 changes nothing
damaged : (came_to (turn waiting none) ≡ (12, Waiting, 5)) × (came_to (turn live none) ≡ (12, Live, 5))
unfolding turn
damaged = (refl, refl)

-- a delta while waiting is 16, whatever its number
waiting-deltas :
    (came_to (turn waiting (some (bid 97 5))) ≡ (16, Waiting, 5)) × (came_to (turn waiting (some (bid 97 6))) ≡ (16, Waiting, 5)) ×
    (came_to (turn waiting (some (bid 97 7))) ≡ (16, Waiting, 5)) × (came_to (turn waiting (some (bid 101 6))) ≡ (16, Waiting, 5))
unfolding turn
waiting-deltas = (refl, refl, refl, refl)

-- while live: at or below the number held 14, the next applied, or 17 and waiting if it crosses, beyond it 15 and waiting
live-deltas :
    (came_to (turn live (some (bid 97 4))) ≡ (14, Live, 5)) × (came_to (turn live (some (bid 97 5))) ≡ (14, Live, 5)) ×
    (came_to (turn live (some (bid 97 6))) ≡ (0, Live, 6)) × (came_to (turn live (some (bid 101 6))) ≡ (17, Waiting, 5)) ×
    (came_to (turn live (some (bid 97 7))) ≡ (15, Waiting, 5))
unfolding turn applied tried set_level sides_fit well_formed in_order leads every best_of is_apart
live-deltas = (refl, refl, refl, refl, refl)

-- a snapshot below, at and above the number held
waiting-snapshots :
    (came_to (turn waiting (some (whole 4))) ≡ (14, Waiting, 5)) × (came_to (turn waiting (some (whole 5))) ≡ (0, Live, 5)) ×
    (came_to (turn waiting (some (whole 6))) ≡ (0, Live, 6))
unfolding turn
waiting-snapshots = (refl, refl, refl)

live-snapshots :
    (came_to (turn live (some (whole 4))) ≡ (14, Live, 5)) × (came_to (turn live (some (whole 5))) ≡ (14, Live, 5)) ×
    (came_to (turn live (some (whole 6))) ≡ (0, Live, 6))
unfolding turn
live-snapshots = (refl, refl, refl)

-- a best bid at the best ask is no receiver's book: 1, whatever the line
abbrev crossed : Receiver
crossed = record { state = Live; book = record { bids = table (level 101 1 ∷ []); asks = table (level 101 1 ∷ []); sequence = 5 } }

no_receiver : came_to (taken crossed line2) ≡ (1, Live, 5)
unfolding taken sides_fit well_formed in_order leads every best_of is_apart
no_receiver = refl

-- the four lines of examples/four.feed from the start: 0, 0, 14, 12, and live with bid 100×5 at 1
four-lines :
    (map came_to (turns start (line1 ∷ line2 ∷ line2 ∷ (10 ∷ []) ∷ [])) ≡ (0, Live, 0) ∷ (0, Live, 1) ∷ (14, Live, 1) ∷ (12, Live, 1) ∷ []) ×
    (heard start (line1 ∷ line2 ∷ line2 ∷ (10 ∷ []) ∷ []) ≡
    record { state = Live; book = record { bids = table (level 100 5 ∷ []); asks = table []; sequence = 1 } })
unfolding turns heard taken turn applied tried set_level decode if_line_of is_whole sides_fit well_formed in_order leads every best_of is_apart encode line check_byte digit value
four-lines = (refl, refl)
