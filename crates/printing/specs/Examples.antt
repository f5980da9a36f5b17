-- The four lines of examples/four.feed, as they are printed; and the texts of the two end states.
use Rattle.std.specs.Prelude.{◌≡◌, refl, [], ◌∷◌, map}
use Rattle.types.specs.Replies.{Reply, done, refused}
use Rattle.levels.specs.Table.{level, table}
use Rattle.orderbook.specs.declared.OrderBook.{OrderBook}
use Rattle.decimals.specs.Decimals.{last_digits, pair}
use Rattle.receiver.specs.declared.State.TheVariants.{Live}
use Rattle.receiver.specs.Turns.{Turn, start}
use Rattle.printing.specs.Printed.{printed, side_text, head_text, sides_text, end_text}

-- a turn with this answer
abbrev answered : Reply (Unit {0}) → Turn
answered a = record { receiver = start; reply = a }

-- "1 0", "2 0", "3 14", "4 12"
four :
    printed 0 (map answered (done tt ∷ done tt ∷ refused 14 [] ∷ refused 12 [] ∷ [])) ≡
    49 ∷ 32 ∷ 48 ∷ 10 ∷ 50 ∷ 32 ∷ 48 ∷ 10 ∷ 51 ∷ 32 ∷ 49 ∷ 52 ∷ 10 ∷ 52 ∷ 32 ∷ 49 ∷ 50 ∷ 10 ∷ []
unfolding printed pair last_digits
four = refl

-- "waiting"
waits : end_text start ≡ 119 ∷ 97 ∷ 105 ∷ 116 ∷ 105 ∷ 110 ∷ 103 ∷ 10 ∷ []
waits = refl

-- "live 1", "bid 100 5", "bid 9 0", "ask 101 4"
abbrev book : OrderBook
book = record { bids = table (level 100 5 ∷ level 9 0 ∷ []); asks = table (level 101 4 ∷ []); sequence = 1 }

shown :
    end_text (record { state = Live; book = book }) ≡
    108 ∷ 105 ∷ 118 ∷ 101 ∷ 32 ∷ 49 ∷ 10 ∷
    98 ∷ 105 ∷ 100 ∷ 32 ∷ 49 ∷ 48 ∷ 48 ∷ 32 ∷ 53 ∷ 10 ∷ 98 ∷ 105 ∷ 100 ∷ 32 ∷ 57 ∷ 32 ∷ 48 ∷ 10 ∷
    97 ∷ 115 ∷ 107 ∷ 32 ∷ 49 ∷ 48 ∷ 49 ∷ 32 ∷ 52 ∷ 10 ∷ []
unfolding head_text sides_text side_text pair last_digits
shown = refl
