-- Book K: what the listings write of it, and answer.
use Rattle.std.specs.Prelude.{◌≡◌, refl, [], ◌∷◌}
use Rattle.types.specs.Replies.{done, refused}
use Rattle.types.specs.Written.{fitted, written}
use Rattle.types.specs.declared.Side.TheVariants.{Bid, Ask}
use Rattle.levels.specs.Order.{leads, in_order}
use Rattle.levels.specs.Table.{level, table}
use Rattle.levels.specs.Formed.{every, well_formed}
use Rattle.sides.specs.Best.{best_of, is_apart}
use Rattle.orderbook.specs.declared.OrderBook.{OrderBook}
use Rattle.orderbook.specs.Book.{sides_fit, empty_book}
use Rattle.orderbook.specs.Examples.{book_k}
use Rattle.listings.specs.declared.Listing.TheVariants.{Top, Snapshot, Between}
use Rattle.listings.specs.Listed.{between, turned, listed, woven, numbers_of, front_of}
use Rattle.listings.specs.Numbered.{listing_named}

-- the best bids, a level of quantity 0 among them; the rest of the buffer keeps its numbers
top : written (numbers_of (Top Bid 2) (book_k 5)) (7 ∷ 7 ∷ 7 ∷ 7 ∷ 7 ∷ 7 ∷ []) ≡ record { answer = done 4; memory = 100 ∷ 5 ∷ 99 ∷ 0 ∷ 7 ∷ 7 ∷ [] }
unfolding listed woven sides_fit well_formed in_order leads every best_of is_apart
top = refl

-- more than there are lists them all, and fills a buffer that is just long enough
top_all : front_of (fitted 4 (numbers_of (Top Ask 9) (book_k 5))) ≡ 101 ∷ 4 ∷ 103 ∷ 6 ∷ []
unfolding listed woven sides_fit well_formed in_order leads every best_of is_apart
top_all = refl

-- bids first
snapshot : written (numbers_of (Snapshot 1) (book_k 5)) (7 ∷ 7 ∷ 7 ∷ 7 ∷ 7 ∷ []) ≡ record { answer = done 4; memory = 100 ∷ 5 ∷ 101 ∷ 4 ∷ 7 ∷ [] }
unfolding listed woven sides_fit well_formed in_order leads every best_of is_apart
snapshot = refl

-- upward on both sides, both ends included, and a range of one price
ranges :
    (front_of (fitted 4 (numbers_of (Between Bid 98 99) (book_k 5))) ≡ 98 ∷ 10 ∷ 99 ∷ 0 ∷ []) ×
    (front_of (fitted 4 (numbers_of (Between Ask 1 103) (book_k 5))) ≡ 101 ∷ 4 ∷ 103 ∷ 6 ∷ []) ×
    (front_of (fitted 4 (numbers_of (Between Bid 100 100) (book_k 5))) ≡ 100 ∷ 5 ∷ [])
unfolding listed woven between turned sides_fit well_formed in_order leads every best_of is_apart
ranges = (refl, refl, refl)

-- lo > hi, and an end that is no price, also where there would be no room for the levels
no-range :
    (fitted 0 (numbers_of (Between Bid 99 98) (book_k 5)) ≡ refused 2 []) ×
    (fitted 8 (numbers_of (Between Bid 0 98) (book_k 5)) ≡ refused 2 []) ×
    (fitted 0 (numbers_of (Between Ask 101 100000001) (book_k 5)) ≡ refused 2 [])
unfolding listed sides_fit well_formed in_order leads every best_of is_apart
no-range = (refl, refl, refl)

-- one place too few: 11, and the buffer keeps its numbers
no_room : written (numbers_of (Top Bid 2) (book_k 5)) (7 ∷ 7 ∷ 7 ∷ []) ≡ record { answer = refused 11 []; memory = 7 ∷ 7 ∷ 7 ∷ [] }
unfolding listed woven sides_fit well_formed in_order leads every best_of is_apart
no_room = refl

-- nothing to list: no numbers, which any buffer has room for
nothing : (fitted 0 (numbers_of (Snapshot 5) empty_book) ≡ done []) × (fitted 0 (numbers_of (Between Ask 102 102) (book_k 5)) ≡ done [])
unfolding listed woven between sides_fit well_formed in_order leads every best_of is_apart
nothing = (refl, refl)

-- a best bid at the best ask is no book: 1 comes before all else
abbrev crossed : OrderBook
crossed = record { bids = table (level 101 1 ∷ []); asks = table (level 101 1 ∷ []); sequence = 0 }

no_book : fitted 0 (numbers_of (Between Bid 99 98) crossed) ≡ refused 1 []
unfolding listed sides_fit well_formed in_order leads every best_of is_apart
no_book = refl

-- the numbers of the listings; a number past 32 bits is no price, and from 3 on none names a listing
numbers :
    (listing_named 0 Ask 4294967296 7 ≡ done (Top Ask 4294967296)) ×
    (listing_named 1 Bid 9 0 ≡ done (Snapshot 9)) ×
    (listing_named 2 Bid 98 100 ≡ done (Between Bid 98 100)) ×
    (listing_named 2 Ask 4294967296 5 ≡ done (Between Ask 0 5)) ×
    (listing_named 3 Bid 98 100 ≡ refused 2 [])
unfolding listing_named
numbers = (refl, refl, refl, refl, refl)
