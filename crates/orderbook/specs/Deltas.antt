-- Deltas at work: the worked examples on book K, and the edges of each refusal, by computation.
use Rattle.std.specs.Prelude.{ℕ, ◌≡◌, refl, List, [], ◌∷◌, ◌++◌, pos}
use Rattle.types.specs.Replies.{done}
use Rattle.types.specs.declared.Side.{Side}
use Rattle.types.specs.declared.Side.TheVariants.{Bid, Ask}
use Rattle.types.specs.declared.PriceLevel.{PriceLevel}
use Rattle.levels.specs.Order.{leads, in_order}
use Rattle.levels.specs.Table.{level, table}
use Rattle.levels.specs.Formed.{every, well_formed}
use Rattle.levels.specs.Change.{set_level, remove_level}
use Rattle.levels.specs.Examples.{falling, full}
use Rattle.sides.specs.Best.{best_of, is_apart}
use Rattle.orderbook.specs.declared.OrderBook.{OrderBook}
use Rattle.deltas.specs.declared.BookDelta.{BookDelta}
use Rattle.deltas.specs.declared.DeltaAction.{DeltaAction}
use Rattle.deltas.specs.declared.DeltaAction.TheVariants.{Set, Remove}
use Rattle.orderbook.specs.Book.{sides_fit, empty_book}
use Rattle.orderbook.specs.Apply.{Change, kept, tried, applied, cleared, side_cleared}
use Rattle.orderbook.specs.Examples.{book_k}

-- a delta, from its parts
abbrev delta : DeltaAction → Side → ℕ → ℕ → ℕ → BookDelta
delta a s p q n = record { side = s; price = p; quantity = q; action = a; sequence = n }

-- the book with these levels and this sequence
abbrev book : List PriceLevel → List PriceLevel → ℕ → OrderBook
book bids asks n = record { bids = table bids; asks = table asks; sequence = n }

-- the change that was accepted
abbrev accepted : OrderBook → Change
accepted b = record { book = b; reply = done tt }

-- book K with other bids or other asks, after sequence 6
abbrev bids6 : List PriceLevel → Change
bids6 bids = accepted (book bids (level 101 4 ∷ level 103 6 ∷ []) 6)

abbrev asks6 : List PriceLevel → Change
asks6 asks = accepted (book (level 100 5 ∷ level 99 0 ∷ level 98 10 ∷ []) asks 6)

-- crossing: 5 with the prices after the attempt, at equality and past it, whatever the quantity
crossings :
    (applied (book_k 5) (delta Set Bid 101 0 6) ≡ kept (book_k 5) 5 (pos 101 ∷ pos 101 ∷ [])) ×
    (applied (book_k 5) (delta Set Ask 100 1 6) ≡ kept (book_k 5) 5 (pos 100 ∷ pos 100 ∷ [])) ×
    (applied (book_k 5) (delta Set Bid 100000000 1 6) ≡ kept (book_k 5) 5 (pos 100000000 ∷ pos 101 ∷ [])) ×
    (applied (book_k 5) (delta Set Ask 1 1 6) ≡ kept (book_k 5) 5 (pos 100 ∷ pos 1 ∷ []))
unfolding applied tried set_level sides_fit well_formed in_order leads every best_of is_apart
crossings = (refl, refl, refl, refl)

-- Set: a new price between the sides, a quantity over, and quantity 0, which stays
sets :
    (applied (book (level 98 1 ∷ []) (level 103 6 ∷ []) 5) (delta Set Bid 102 3 6) ≡ accepted (book (level 102 3 ∷ level 98 1 ∷ []) (level 103 6 ∷ []) 6)) ×
    (applied (book_k 5) (delta Set Ask 102 9 6) ≡ asks6 (level 101 4 ∷ level 102 9 ∷ level 103 6 ∷ [])) ×
    (applied (book_k 5) (delta Set Bid 99 7 6) ≡ bids6 (level 100 5 ∷ level 99 7 ∷ level 98 10 ∷ [])) ×
    (applied (book_k 5) (delta Set Bid 100 0 6) ≡ bids6 (level 100 0 ∷ level 99 0 ∷ level 98 10 ∷ []))
unfolding applied tried set_level sides_fit well_formed in_order leads every best_of is_apart
sets = (refl, refl, refl, refl)

-- Remove: an absent price, the best price, and any quantity beside it
removals :
    (applied (book_k 5) (delta Remove Ask 102 0 6) ≡ accepted (book_k 6)) ×
    (applied (book_k 5) (delta Remove Bid 100 0 6) ≡ bids6 (level 99 0 ∷ level 98 10 ∷ [])) ×
    (applied (book_k 5) (delta Remove Ask 101 4294967295 6) ≡ asks6 (level 103 6 ∷ []))
unfolding applied tried remove_level sides_fit well_formed in_order leads every best_of is_apart
removals = (refl, refl, refl)

-- the limits are tested before the sequence, and the sequence before crossing
in_order_lem :
    (applied (book_k 5) (delta Set Bid 0 1 9) ≡ kept (book_k 5) 2 []) ×
    (applied (book_k 5) (delta Set Bid 100000001 1 6) ≡ kept (book_k 5) 2 []) ×
    (applied (book_k 5) (delta Set Ask 102 1000000001 6) ≡ kept (book_k 5) 2 []) ×
    (applied (book_k 5) (delta Remove Ask 0 0 6) ≡ kept (book_k 5) 2 []) ×
    (applied (book_k 5) (delta Set Bid 101 0 5) ≡ kept (book_k 5) 4 (pos 6 ∷ pos 5 ∷ [])) ×
    (applied (book_k 5) (delta Set Bid 101 0 7) ≡ kept (book_k 5) 4 (pos 6 ∷ pos 7 ∷ []))
unfolding applied tried sides_fit well_formed in_order leads every best_of is_apart
in_order_lem = (refl, refl, refl, refl, refl, refl)

-- the first sequence number and the last
sequences :
    (applied empty_book (delta Set Bid 7 0 1) ≡ accepted (book (level 7 0 ∷ []) [] 1)) ×
    (applied empty_book (delta Set Bid 7 0 0) ≡ kept empty_book 4 (pos 1 ∷ pos 0 ∷ [])) ×
    (applied (book_k 18446744073709551614) (delta Remove Bid 1 0 18446744073709551615) ≡ accepted (book_k 18446744073709551615)) ×
    (applied (book_k 18446744073709551615) (delta Remove Bid 1 0 0) ≡ kept (book_k 18446744073709551615) 3 [])
unfolding applied tried set_level remove_level sides_fit well_formed in_order leads every best_of is_apart
sequences = (refl, refl, refl, refl)

-- sides that touch are no book's: every change is 1
abbrev touching : OrderBook
touching = book (level 101 5 ∷ []) (level 101 4 ∷ []) 5

no_book :
    (applied touching (delta Remove Bid 101 0 6) ≡ kept touching 1 []) × (cleared touching ≡ kept touching 1 []) × (side_cleared Ask touching ≡ kept touching 1 [])
unfolding applied cleared side_cleared sides_fit well_formed in_order leads every best_of is_apart
no_book = (refl, refl, refl)

-- clear and remove_all
emptied :
    (cleared (book_k 5) ≡ accepted empty_book) ×
    (side_cleared Bid (book_k 5) ≡ accepted (book [] (level 101 4 ∷ level 103 6 ∷ []) 5)) ×
    (side_cleared Ask (book_k 5) ≡ accepted (book (level 100 5 ∷ level 99 0 ∷ level 98 10 ∷ []) [] 5))
unfolding cleared side_cleared sides_fit well_formed in_order leads every best_of is_apart
emptied = (refl, refl, refl)

-- bids at 1000 down to 873, all 128 places
abbrev full_book : ℕ → OrderBook
full_book n = book full (level 1001 1 ∷ []) n

-- a full side: a new price is 6, one that crosses is 5, one that is there is tried, and the room that a Remove leaves is used at once
full-side :
    (applied (full_book 0) (delta Set Bid 500 1 1) ≡ kept (full_book 0) 6 []) ×
    (applied (full_book 0) (delta Set Bid 1001 1 1) ≡ kept (full_book 0) 5 (pos 1001 ∷ pos 1001 ∷ [])) ×
    (applied (full_book 0) (delta Set Bid 1000 9 1) ≡ accepted (book (level 1000 9 ∷ falling 127 999) (level 1001 1 ∷ []) 1)) ×
    (applied (applied (full_book 0) (delta Remove Bid 1000 0 1)).book (delta Set Bid 500 1 2) ≡ accepted (book (falling 127 999 ++ (level 500 1 ∷ [])) (level 1001 1 ∷ []) 2))
unfolding falling full applied tried set_level remove_level sides_fit well_formed in_order leads every best_of is_apart
full-side = (refl, refl, refl, refl)
