-- The worked examples as one statement over one list of inputs and answers, book and ledger together. What answers is
-- only what the calls are proved to give: `book_ask` (questions::ask), `applied` (apply_delta), `created` (PositionLedger::new), `booked` (apply_fill).
use Rattle.std.specs.Prelude.{ℕ, ◌≡◌, refl, List, [], ◌∷◌, map, ℤ, pos, neg_ℤ}
use Rattle.amount.specs.Sums.{all_to}
use Rattle.amount.specs.Whole.{amount}
use Rattle.types.specs.Replies.{Reply, done, refused}
use Rattle.types.specs.declared.Side.{Side}
use Rattle.types.specs.declared.Side.TheVariants.{Bid, Ask}
use Rattle.types.specs.declared.PriceLevel.{PriceLevel}
use Rattle.quotient.specs.Over.{over, over_or_none}
use Rattle.quotient.specs.Examples as Q
use Rattle.levels.specs.Order.{leads, in_order}
use Rattle.levels.specs.Formed.{every, well_formed}
use Rattle.walks.specs.Walk.{sum_of, cost_of, reach_from}
use Rattle.levels.specs.Change.{set_level, remove_level}
use Rattle.sides.specs.Best.{best_of, is_apart}
use Rattle.sides.specs.Questions.{of_both, vwap_of, impact_of, volume_price_of}
use Rattle.deltas.specs.declared.BookDelta.{BookDelta}
use Rattle.deltas.specs.declared.DeltaAction.{DeltaAction}
use Rattle.deltas.specs.declared.DeltaAction.TheVariants.{Set, Remove}
use Rattle.orderbook.specs.Book.{bids_of, asks_of, sides_fit}
use Rattle.orderbook.specs.Apply as B
use Rattle.orderbook.specs.Examples.{book_k}
use Rattle.questions.specs.declared.Question.{Question}
use Rattle.asked.specs.declared.SideNumber.TheVariants.{PriceAtVolume}
use Rattle.asked.specs.declared.TopRatio.TheVariants.{WeightedMid}
use Rattle.asked.specs.declared.VolumeRatio.TheVariants.{Imbalance}
use Rattle.asked.specs.declared.Trade.TheVariants.{VwapForQty, PriceImpact}
use Rattle.questions.specs.declared.Question.TheVariants.{OfSide, OfTops, OfVolumes, Traded}
use Rattle.questions.specs.Questions.{weighted_mid, imbalance, vwap_for_qty, price_impact, price_at_volume}
use Rattle.questions.specs.declared.Value.{Value}
use Rattle.questions.specs.declared.Value.TheVariants as V
use Rattle.questions.specs.Asked.{book_ask}
use Rattle.holding.specs.declared.Fill.{Fill}
use Rattle.holding.specs.Holding.{is_position, is_fill, average_after, position_after}
use Rattle.holding.specs.Rows.{are_positions}
use Rattle.position.specs.Ledger as L

-- what is put: a question to book K, a delta to book K, or fills of symbol 0, one after the other, to a ledger opened with this cash
pub data Input : Type 0 where
  asked : Question → Input
  offered : BookDelta → Input
  traded : ℤ → List Fill → Input

-- what comes back: the reply to the question; the reply to the delta, with the bids, the asks and the sequence then; the reply to the last
-- fill, with the cash and the position then: its quantity, average and realized profit
pub data Output : Type 0 where
  replied : Reply Value → Output
  left : Reply (Unit {0}) → List PriceLevel → List PriceLevel → ℕ → Output
  settled : Reply (Unit {0}) → ℤ → ℤ → ℕ → ℤ → Output

-- what a change of a book shows
abbrev pub of_book : B.Change → Output
of_book c = left c.reply (bids_of c.book) (asks_of c.book) c.book.sequence

-- what a change of a ledger shows
abbrev pub of_ledger : L.Change → Output
of_ledger c =
    let p = L.position_at c.ledger 0 in
    settled c.reply c.ledger.cash.value p.quantity.value p.average p.realized.value

-- a ledger's change, and then fills
unfoldable pub then_fills : L.Change → List Fill → L.Change
then_fills c [] = c
then_fills c (f ∷ fs) = then_fills (L.booked c.ledger f) fs

-- the answer to an input
unfoldable pub answered : Input → Output
answered (asked q) = replied (book_ask (book_k 5) q)
answered (offered d) = of_book (B.applied (book_k 5) d)
answered (traded cash fs) = of_ledger (then_fills (L.created cash) fs)

-- ── the examples, in words ──

-- a delta: action, side, price, quantity, sequence
abbrev delta : DeltaAction → Side → ℕ → ℕ → ℕ → BookDelta
delta a s p q n = record { side = s; price = p; quantity = q; action = a; sequence = n }

-- buy so many at a price, with this commission
abbrev buy : ℕ → ℕ → ℕ → Fill
buy n price commission = record { symbol = 0; side = Bid; quantity = n; price = price; commission = amount (pos commission) }

-- sell so many at a price, with this commission
abbrev sell : ℕ → ℕ → ℕ → Fill
sell n price commission = record { symbol = 0; side = Ask; quantity = n; price = price; commission = amount (pos commission) }

-- this numerator over this denominator, in plain numbers
abbrev quotient : ℕ → ℕ → Output
quotient n d = replied (done (V.Ratio (Q.quotient n d)))

-- a price
abbrev price : ℕ → Output
price p = replied (done (V.Number p))

-- a refusal of a question, with what it carries
abbrev refusal : ℕ → List ℤ → Output
refusal n vs = replied (refused n vs)

-- this reply to a delta, levels as in book K, and this sequence
abbrev levels_same : Reply (Unit {0}) → ℕ → Output
levels_same r n = left r (bids_of (book_k 5)) (asks_of (book_k 5)) n

-- less than zero
abbrev minus : ℕ → ℤ
minus n = neg_ℤ (pos n)

-- an input and the answer that is expected
pub record Example : Type 0 where
  pub input : Input
  pub output : Output

infixl 20 ◌gives◌
-- an input, then its answer
abbrev pub ◌gives◌ : Input → Output → Example
x gives y = record { input = x; output = y }

-- Book K, sequence 5: bids 100×5, 99×0, 98×10; asks 101×4, 103×6.
unfoldable pub examples : List Example
examples =
    -- vwap_for_qty Bid 7: 696 over 7, as is price_impact Ask 7. Ask 7: 713 over 7, as is price_impact Bid 7.
    (asked (Traded Bid (VwapForQty 7)) gives quotient 696 7)
    ∷ (asked (Traded Ask (PriceImpact 7)) gives quotient 696 7)
    ∷ (asked (Traded Ask (VwapForQty 7)) gives quotient 713 7)
    ∷ (asked (Traded Bid (PriceImpact 7)) gives quotient 713 7)
    -- Bid 15: 1480 over 15; Bid 16: 7; price_impact Ask 16: 10.
    ∷ (asked (Traded Bid (VwapForQty 15)) gives quotient 1480 15)
    ∷ (asked (Traded Bid (VwapForQty 16)) gives refusal 7 (pos 16 ∷ []))
    ∷ (asked (Traded Ask (PriceImpact 16)) gives refusal 10 [])
    -- Set bid 101×0, sequence 6: 5 with 101, 101. Sequence 5: 4 with 6, 5.
    ∷ (offered (delta Set Bid 101 0 6) gives levels_same (refused 5 (pos 101 ∷ pos 101 ∷ [])) 5)
    ∷ (offered (delta Set Bid 101 0 5) gives levels_same (refused 4 (pos 6 ∷ pos 5 ∷ [])) 5)
    -- Remove ask 102, sequence 6: levels same, sequence 6.
    ∷ (offered (delta Remove Ask 102 0 6) gives levels_same (done tt) 6)
    -- price_at_volume Bid 5: 100; 6: 98; 99: 98.
    ∷ (asked (OfSide Bid (PriceAtVolume 5)) gives price 100)
    ∷ (asked (OfSide Bid (PriceAtVolume 6)) gives price 98)
    ∷ (asked (OfSide Bid (PriceAtVolume 99)) gives price 98)
    -- imbalance 5 over 25; weighted_mid 905 over 9.
    ∷ (asked (OfVolumes Imbalance) gives quotient 5 25)
    ∷ (asked (OfTops WeightedMid) gives quotient 905 9)
    -- Cash 10000: buy 3 at 100, commission 2; buy 2 at 101; sell 4 at 110, commission 1; sell 3 at 90.
    -- Cash 10205, quantity -2, average 90, realized 27.
    ∷ (traded (pos 10000) (buy 3 100 2 ∷ buy 2 101 0 ∷ sell 4 110 1 ∷ sell 3 90 0 ∷ []) gives settled (done tt) (pos 10205) (minus 2) 90 (pos 27))
    -- Cash 100, buy 1 at 99: commission 2 is 8 (101, 100); 1 leaves 0.
    ∷ (traded (pos 100) (buy 1 99 2 ∷ []) gives settled (refused 8 (pos 101 ∷ pos 100 ∷ [])) (pos 100) (pos 0) 0 (pos 0))
    ∷ (traded (pos 100) (buy 1 99 1 ∷ []) gives settled (done tt) (pos 0) (pos 1) 99 (minus 1))
    ∷ []

-- every one of them has its answer
pub all-answered : map (λ (e : Example). answered e.input) examples ≡ map (λ (e : Example). e.output) examples
unfolding examples answered then_fills
    book_ask vwap_for_qty price_impact price_at_volume weighted_mid imbalance vwap_of impact_of volume_price_of of_both over over_or_none sum_of cost_of reach_from
    B.applied B.tried set_level remove_level sides_fit well_formed in_order leads every best_of is_apart
    L.created L.booked L.settled L.filled L.is_ledger are_positions is_fill is_position position_after average_after all_to
all-answered = refl
