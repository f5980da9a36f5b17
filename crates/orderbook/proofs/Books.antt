-- What a book is held to, unpacked once, and the rows that are lent of one.
use Prim.Native.Nat.{ℕ, ◌≤◌}
use mathlib.Core.Path.{◌≡◌, refl, sym, subst}
use mathlib.Core.Bool.{Bool, true, false, not, and-eq-true_iff}
use mathlib.Core.List.{List}
use lib.ListN.{length, take}
use Rattle.types.specs.declared.Side.{Side}
use Rattle.types.specs.declared.Side.TheVariants.{Bid, Ask}
use Rattle.types.proofs.Booleans.{passed}
use Rattle.levels.specs.declared.Levels.{Levels}
use Rattle.levels.specs.Order.{in_order}
use Rattle.levels.specs.Table.{rows}
use Rattle.levels.specs.Formed.{well_formed}
use Rattle.levels.proofs.Tables.{Sized, Formed, formed, levels-prices}
use Rattle.deltas.specs.declared.Counts.{Counts}
use Rattle.deltas.specs.Inner.Deciding.{count_of}
use Rattle.sides.specs.Best.{best_of, is_apart}
use Rattle.levels.specs.Lent.{levels_in}
use Rattle.levels.specs.declared.lent.SideRows.{SideRows}
use Rattle.sides.specs.Inner.Limits.{OfSide, BestFits}
use Rattle.sides.proofs.Bests.{best-fits}
use Rattle.orderbook.specs.declared.OrderBook.{OrderBook}
use Rattle.orderbook.specs.declared.lent.BookRows.{BookRows}
use Rattle.orderbook.specs.Book.{of_side, sides_fit, is_book, side_of, levels_of, bids_of, asks_of}
use Rattle.orderbook.specs.Lent.{book_at, book_in}
use Rattle.orderbook.specs.Inner.Long.{Long}

-- what `is_book` says
pub record Book (b : OrderBook) : Type 0 where
  pub is : is_book b ≡ true
  pub side : (s : Side) → Formed s (side_of s b)
  pub apart : is_apart (best_of (bids_of b)) (best_of (asks_of b)) ≡ true

pub a_book : (b : OrderBook) → is_book b ≡ true → Book b
unfolding sides_fit
a_book b h =
    let f = (and-eq-true_iff (well_formed Bid b.bids) _).0 h in
    let g = (and-eq-true_iff (well_formed Ask b.asks) _).0 f.1 in
    record { is = h; side = elim [ Bid ↦ formed Bid b.bids f.0 | Ask ↦ formed Ask b.asks g.0 ]; apart = g.1 }

-- the best levels are within the limits
pub best_small : {b : OrderBook} → Book b → (s : Side) → BestFits (best_of (levels_of s b))
best_small {b} k s = best-fits (levels_of s b) (k.side s).limits

-- a book that is lent, once it is tested
pub record Tested (b : OrderBook) : Type 0 where
  pub book : Book b
  pub long : Long b

-- what code knows behind `if !is_book(..) { return .. }`
pub tested : {r : Bool} {b : OrderBook} → (r ≡ is_book b) × Long b → not r ≡ false → Tested b
tested {r} {b} e h = record { book = a_book b (passed e.0 h); long = e.1 }

module _ {b : OrderBook} (t : Tested b) where
  pub sized : (s : Side) → Sized (side_of s b)
  sized Bid = record { ps = t.long.bid-prices; qs = t.long.bid_quantities }
  sized Ask = record { ps = t.long.ask-prices; qs = t.long.ask_quantities }

  pub row_order : (s : Side) → in_order s (take (side_of s b).count (side_of s b).prices) ≡ true
  row_order s = rw (levels-prices (side_of s b) (sized s) (t.book.side s).few) at (t.book.side s).order

-- what code knows behind `if !book.is_book() { return .. }`
pub behind : (r : BookRows) {t : Bool} → t ≡ is_book (book_in r) → not t ≡ false → Book (book_in r)
behind r e h = a_book (book_in r) (passed e h)

-- rows that are lent have 128 places
pub long_rows : (r : BookRows) → Long (book_in r)
long_rows r = record { bid-prices = r.bids.long_prices; bid_quantities = r.bids.long_quantities; ask-prices = r.asks.long_prices; ask_quantities = r.asks.long_quantities }

pub lent_book_tested : (r : BookRows) {t : Bool} → t ≡ is_book (book_in r) → not t ≡ false → Tested (book_in r)
lent_book_tested r e h = record { book = behind r e h; long = long_rows r }

-- a side that is lent of a book is as a book's side is
pub lent_side : {b : OrderBook} → Book b → (s : Side) (r : SideRows) → levels_in r ≡ side_of s b → OfSide s r
lent_side k s r e =
    let f = subst (λ (t : Levels). Formed s t) (sym e) (k.side s) in
    let w : Sized (levels_in r) = record { ps = r.long_prices; qs = r.long_quantities } in
    record { known = record { few = f.few; limits = f.limits }; order = rw (levels-prices (levels_in r) w f.few) at f.order }
