-- What the feed program prints: each line's number and outcome, then the end state.
use Rattle.std.specs.Prelude.{ℕ, ◌+◌, cond, List, [], ◌∷◌, ◌++◌, ltb}
use Rattle.types.specs.Replies.{Reply, done, refused}
use Rattle.types.specs.declared.PriceLevel.{PriceLevel}
use Rattle.levels.specs.Table.{levels}
use Rattle.orderbook.specs.declared.OrderBook.{OrderBook}
use Rattle.decimals.specs.Decimals.{decimal, pair}
use Rattle.receiver.specs.declared.State.{State}
use Rattle.receiver.specs.declared.State.TheVariants.{Waiting, Live}
use Rattle.receiver.specs.declared.Receiver.{Receiver}
use Rattle.receiver.specs.Turns.{Turn}

-- ── outcomes ──

-- the number of an answer: 0 for done
abbrev pub answer_number : Reply (Unit {0}) → ℕ
answer_number (done u) = 0
answer_number (refused n vs) = n

-- the number of the next line: after the largest u64 lines have that number
abbrev pub next : ℕ → ℕ
next k = cond (ltb k 18446744073709551615) (k + 1) k

-- a line's number and the number of its answer
abbrev pub outcome_line : ℕ → Turn → List ℕ
outcome_line k t = pair k (answer_number t.reply)

-- the outcomes of turns that come after k lines
unfoldable pub printed : ℕ → List Turn → List ℕ
printed k [] = []
printed k (t ∷ ts) = outcome_line (next k) t ++ printed (next k) ts

-- how many lines there are with them
unfoldable pub counted : ℕ → List Turn → ℕ
counted k [] = k
counted k (t ∷ ts) = counted (next k) ts

-- ── the end state ──

-- the word before a bid, `bid `
abbrev pub bid : List ℕ
bid = 98 ∷ 105 ∷ 100 ∷ 32 ∷ []

-- and before an ask, `ask `
abbrev pub ask : List ℕ
ask = 97 ∷ 115 ∷ 107 ∷ 32 ∷ []

-- a side's levels, best first, a word before each
unfoldable pub side_text : List ℕ → List PriceLevel → List ℕ
side_text word [] = []
side_text word (l ∷ ls) = word ++ (pair l.price l.quantity ++ side_text word ls)

-- `live ` and the number held
unfoldable pub head_text : ℕ → List ℕ
head_text n = (108 ∷ 105 ∷ 118 ∷ 101 ∷ 32 ∷ []) ++ (decimal n ++ (10 ∷ []))

-- the bids, then the asks
unfoldable pub sides_text : OrderBook → List ℕ
sides_text b = side_text bid (levels b.bids) ++ side_text ask (levels b.asks)

-- `waiting`, or the book that is shown
abbrev pub state_text : State → OrderBook → List ℕ
state_text Waiting b = 119 ∷ 97 ∷ 105 ∷ 116 ∷ 105 ∷ 110 ∷ 103 ∷ 10 ∷ []
state_text Live b = head_text b.sequence ++ sides_text b

-- the end state of a receiver
abbrev pub end_text : Receiver → List ℕ
end_text r = state_text r.state r.book
