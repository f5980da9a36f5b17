-- What a book is, and the levels of its sides.
use Rattle.std.specs.Prelude.{Bool, ◌&&◌, List, []}
use Rattle.types.specs.Replies.{Reply, if_record}
use Rattle.types.specs.declared.Side.{Side}
use Rattle.types.specs.declared.Side.TheVariants.{Bid, Ask}
use Rattle.types.specs.declared.PriceLevel.{PriceLevel}
use Rattle.levels.specs.declared.Levels.{Levels}
use Rattle.levels.specs.Table.{levels, table}
use Rattle.levels.specs.Formed.{well_formed}
use Rattle.sides.specs.Best.{best_of, is_apart}
use Rattle.orderbook.specs.declared.OrderBook.{OrderBook}

-- what a side has of two things, the bids' and the asks'
abbrev pub of_side : {A : Type 0} → Side → A → A → A
of_side Bid bids asks = bids
of_side Ask bids asks = asks

-- the other side: buying takes asks, selling takes bids
abbrev pub opposite : Side → Side
opposite Bid = Ask
opposite Ask = Bid

-- a side's table
abbrev pub side_of : Side → OrderBook → Levels
side_of s b = of_side s b.bids b.asks

-- a side's levels, best first
abbrev pub levels_of : Side → OrderBook → List PriceLevel
levels_of s b = levels (side_of s b)

-- the bids
abbrev pub bids_of : OrderBook → List PriceLevel
bids_of b = levels_of Bid b

-- the asks
abbrev pub asks_of : OrderBook → List PriceLevel
asks_of b = levels_of Ask b

-- bids strictly falling and asks strictly rising in price, counts at most 128, all values in the limits, unused places 0, and best bid < best ask if both exist
unfoldable pub sides_fit : Levels → Levels → Bool
sides_fit bids asks = well_formed Bid bids && (well_formed Ask asks && is_apart (best_of (levels bids)) (best_of (levels asks)))

-- a record is a book when its sides are a book's; any sequence will do
abbrev pub is_book : OrderBook → Bool
is_book b = sides_fit b.bids b.asks

-- the reply of a book, and 1 of a record that is none
abbrev pub of_book : {A : Type 0} → OrderBook → Reply A → Reply A
of_book b x = if_record (is_book b) x

-- no levels, sequence 0
abbrev pub empty_book : OrderBook
empty_book = record { bids = table []; asks = table []; sequence = 0 }
