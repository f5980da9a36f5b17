-- The levels that a listing lists of a book, and the numbers that they are written as.
use Rattle.std.specs.Prelude.{ℕ, Bool, cond, ◌&&◌, List, [], ◌∷◌, ◌++◌, leb, take}
use Rattle.types.specs.Limits.{within, is_price}
use Rattle.types.specs.Replies.{Reply, done, refused, if_within, map_reply}
use Rattle.types.specs.declared.Side.{Side}
use Rattle.types.specs.declared.Side.TheVariants.{Bid, Ask}
use Rattle.types.specs.declared.PriceLevel.{PriceLevel}
use Rattle.orderbook.specs.declared.OrderBook.{OrderBook}
use Rattle.orderbook.specs.Book.{of_book, levels_of, bids_of, asks_of}
use Rattle.listings.specs.declared.Listing.{Listing}
use Rattle.listings.specs.declared.Listing.TheVariants.{Top, Snapshot, Between}

-- the levels with prices from lo to hi
unfoldable pub between : ℕ → ℕ → List PriceLevel → List PriceLevel
between lo hi [] = []
between lo hi (l ∷ ls) = cond (within lo hi l.price) (l ∷ between lo hi ls) (between lo hi ls)

-- the other way round
unfoldable pub turned : List PriceLevel → List PriceLevel
turned [] = []
turned (l ∷ ls) = turned ls ++ l ∷ []

-- upward in price: bids from the last, asks from the first
abbrev pub upward : Side → List PriceLevel → List PriceLevel
upward Bid ls = turned ls
upward Ask ls = ls

-- the ends of a range: prices within their limits, the lower first
abbrev pub is_range : ℕ → ℕ → Bool
is_range lo hi = is_price lo && (is_price hi && leb lo hi)

-- what a listing lists of a book: the best n levels of a side; those of both sides, bids first; the levels from lo to hi, upward on both sides,
-- and 2 where these are no range
unfoldable pub listed : Listing → OrderBook → Reply (List PriceLevel)
listed (Top s n) b = of_book b (done (take n (levels_of s b)))
listed (Snapshot n) b = of_book b (done (take n (bids_of b) ++ take n (asks_of b)))
listed (Between s lo hi) b = of_book b (if_within (is_range lo hi) (done (upward s (between lo hi (levels_of s b)))))

-- price, quantity, price, quantity
unfoldable pub woven : List PriceLevel → List ℕ
woven [] = []
woven (l ∷ ls) = l.price ∷ l.quantity ∷ woven ls

-- the numbers that a listing writes, if there is room for them
abbrev pub numbers_of : Listing → OrderBook → Reply (List ℕ)
numbers_of l b = map_reply woven (listed l b)

-- the numbers that were written: none on a refusal
abbrev pub front_of : Reply (List ℕ) → List ℕ
front_of (done ns) = ns
front_of (refused n vs) = []
