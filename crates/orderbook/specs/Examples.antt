-- Book K, the book of the worked examples, which is a book.
use Rattle.std.specs.Prelude.{ℕ, true, ◌≡◌, refl, [], ◌∷◌}
use Rattle.levels.specs.Order.{leads, in_order}
use Rattle.levels.specs.Table.{level, table}
use Rattle.levels.specs.Formed.{every, well_formed}
use Rattle.sides.specs.Best.{best_of, is_apart}
use Rattle.orderbook.specs.declared.OrderBook.{OrderBook}
use Rattle.orderbook.specs.Book.{sides_fit, is_book}

-- bids 100×5, 99×0, 98×10; asks 101×4, 103×6
abbrev pub book_k : ℕ → OrderBook
book_k n =
    record {
      bids = table (level 100 5 ∷ level 99 0 ∷ level 98 10 ∷ []);
      asks = table (level 101 4 ∷ level 103 6 ∷ []);
      sequence = n;
    }

-- its sides are in order, within the limits and apart
pub is_book_lem : is_book (book_k 5) ≡ true
unfolding sides_fit well_formed in_order leads every best_of is_apart
is_book_lem = refl
