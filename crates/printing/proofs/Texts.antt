-- Laws of the texts that are put: an outcome's line is short; the end state's text level by level, and how long it is at most.
use Prim.Native.Nat.{ℕ, min, ◌+◌, ◌*◌, ◌≤◌, ◌<◌}
use mathlib.Core.Path.{◌≡◌, refl, sym}
use mathlib.Core.List.{List, [], ◌∷◌, ◌++◌, append_assoc}
use native.Mathlib.Omega.{arith}
use borrow.Author.Tests.{leb-true, leb-false}
use lib.Dec.{leb}
use lib.ListN.{length, get_or, take, drop, length-append, length-take, drop_of_length-le}
use lib.Seq.{take_all}
use Rattle.types.specs.declared.PriceLevel.{PriceLevel}
use Rattle.types.proofs.Booleans.{by}
use Rattle.levels.specs.declared.Levels.{Levels}
use Rattle.levels.specs.Table.{paired, levels, rows}
use Rattle.levels.proofs.Tables.{levels-length, levels_cons}
use Rattle.orderbook.specs.declared.OrderBook.{OrderBook}
use Rattle.orderbook.specs.declared.lent.BookRows.{BookRows}
use Rattle.orderbook.specs.Lent.{book_in}
use Rattle.orderbook.specs.Inner.Long.{Long}
use Rattle.orderbook.proofs.Books.{long_rows}
use Rattle.decimals.specs.Decimals.{decimal, pair, Puts}
use Rattle.decimals.proofs.Digits.{decimal-short, two_digits, pair-length}
use Rattle.decimals.proofs.Puts.{then, room, front_room, rest_room, Owed, owed-put, owed_end, owed_room}
use Rattle.printing.specs.Printed.{bid, ask, side_text, head_text, sides_text}

-- how pieces are put one behind the other, and the room for each
pub ruleset pieces = (then, front_room, rest_room)

-- ── the rows of a side ──

module _ (word p q : List ℕ) (n i : ℕ) (lp : length p ≡ 128) (lq : length q ≡ 128) (few : n ≤ 128) where
  -- the text from a level on: that level's, and of those behind it
  pub side_next : i < n → side_text word (drop i (levels (rows p q n))) ≡ (word ++ pair (get_or p i 0) (get_or q i 0)) ++ side_text word (drop (i + 1) (levels (rows p q n)))
  unfolding side_text
  side_next h =
      rw (levels_cons (rows p q n) (record { ps = lp; qs = lq }) few i h)
      (sym (append_assoc word (pair (get_or p i 0) (get_or q i 0)) (side_text word (drop (i + 1) (levels (rows p q n))))))

  pub side_done : n ≤ i → side_text word (drop i (levels (rows p q n))) ≡ []
  unfolding side_text
  side_done h =
      let short : length (levels (rows p q n)) ≤ i = omega (arith, levels-length (rows p q n) (record { ps = lp; qs = lq }) few) in
      let none : drop i (levels (rows p q n)) ≡ [] = drop_of_length-le (levels (rows p q n)) short in
      rw none

  -- a level put, of those that are owed
  module _ (all : List ℕ) (at : ℕ) (o : List ℕ) (u : ℕ) (now : List ℕ) (w : Owed all at o (side_text word (drop i (levels (rows p q n)))) u now) where
    pub side_room : i < n → at + length all ≤ length o → u + length (word ++ pair (get_or p i 0) (get_or q i 0)) ≤ length now
    side_room h r =
        let level = word ++ pair (get_or p i 0) (get_or q i 0) in
        let behind = side_text word (drop (i + 1) (levels (rows p q n))) in
        omega (arith, owed_room all at o (level ++ behind) u now r (rw (side_next h) at w), length-append level behind)

    pub side-put :
        i < n → (m : ℕ) (after : List ℕ) → Puts (word ++ pair (get_or p i 0) (get_or q i 0)) u now after m →
        Owed all at o (side_text word (drop (i + 1) (levels (rows p q n)))) m after
    side-put h m after x = owed-put all at o _ _ u now m after (rw (side_next h) at w) x

    pub side_end : n ≤ i → at + length all ≤ length o → Puts all at o now u
    side_end h r = let v = rw (side_done h) at w in owed_end all at o u now v (omega (arith, owed_room all at o [] u now r v))

-- a count above 128 shows the 128 places
pub same-levels : (p q : List ℕ) (n m : ℕ) → length p ≡ 128 → length q ≡ 128 → m ≡ min n 128 → levels (rows p q m) ≡ levels (rows p q n)
same-levels p q n m lp lq e =
    by (leb n 128) (λ t. let h : m ≡ n = omega (arith, leb-true n 128 t) in rw h) (λ t.
    let h : m ≡ 128 = omega (arith, leb-false n 128 t) in
    let far : 128 < n = leb-false n 128 t in
    rw (h, take_all n p (omega arith), take_all n q (omega arith), take_all 128 p (omega arith), take_all 128 q (omega arith)))

-- ── lengths ──

-- an outcome's line has 24 bytes at most
pub outcome-short : (k n : ℕ) → n < 100 → length (pair k n) ≤ 24
outcome-short k n h = omega (arith, pair-length k n, decimal-short k, two_digits n h)

pub ruleset short_outcomes = (outcome-short)

side_length : (word : List ℕ) (ls : List PriceLevel) → length word ≡ 4 → length (side_text word ls) ≤ 46 * length ls
unfolding side_text
side_length word [] h = omega arith
side_length word (l ∷ ls) h =
    let e = side_length word ls h in
    omega (arith, length-append word (pair l.price l.quantity ++ side_text word ls), length-append (pair l.price l.quantity) (side_text word ls), pair-length l.price l.quantity, decimal-short l.price, decimal-short l.quantity)

pub head_length : (n : ℕ) → length (head_text n) ≡ length (decimal n) + 6
unfolding head_text
head_length n = omega (arith, length-append (decimal n) (10 ∷ []))

pub sides_length : (b : OrderBook) → length (sides_text b) ≡ length (side_text bid (levels b.bids)) + length (side_text ask (levels b.asks))
unfolding sides_text
sides_length b = length-append (side_text bid (levels b.bids)) (side_text ask (levels b.asks))

paired-short : (ps qs : List ℕ) → length (paired ps qs) ≤ length ps
paired-short [] qs = omega arith
paired-short (p ∷ ps) [] = omega arith
paired-short (p ∷ ps) (q ∷ qs) = let h = paired-short ps qs in omega arith

levels_few : (t : Levels) → length t.prices ≡ 128 → length (levels t) ≤ 128
levels_few t h =
    omega (arith, paired-short (take t.count t.prices) (take t.count t.quantities), length-take t.count t.prices)

-- the end state has at most 12,000 bytes
pub end_short : (b : OrderBook) → Long b → length (head_text b.sequence) + length (sides_text b) ≤ 12000
end_short b w =
    omega (
      arith,
      head_length b.sequence,
      decimal-short b.sequence,
      sides_length b,
      side_length bid (levels b.bids) refl,
      side_length ask (levels b.asks) refl,
      levels_few b.bids w.bid-prices,
      levels_few b.asks w.ask-prices,
    )

-- the room for the sides behind the head
pub sides_room :
    {o p : List ℕ} {at m : ℕ} (r : BookRows) → Puts (head_text r.sequence) at o p m → at + 12000 ≤ length o → m + length (sides_text (book_in r)) ≤ length p
sides_room {o} {p} {at} {m} r a h = room (head_text r.sequence) o p at m (length (sides_text (book_in r))) a (omega (arith, h, end_short (book_in r) (long_rows r)))
