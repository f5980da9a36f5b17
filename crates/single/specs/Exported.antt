-- The calls of crate exports.
use Rattle.std.specs.Prelude.{ℕ, ◌≡◌, List}
use Rattle.std.proofs.Common.{ap, sym, ◌∙◌}
use Rattle.types.specs.Written.{Left}
use Rattle.told.specs.declared.Told.{Told}
use Rattle.numbered.specs.declared.CountsTold.{CountsTold}
use Rattle.exports.specs.declared.LedgerTold.{LedgerTold}
use Rattle.exports.specs.declared.TotalsTold.{TotalsTold}
use Rattle.exports.specs.declared.DayTold.{DayTold}
use Rattle.exports.specs.declared.TurnTold.{TurnTold}
use Rattle.numbered.specs.Books.{BookTold}
use Rattle.exports.specs.Ledgers.{LedgerDay}
use Rattle.exports.specs.Receivers.{HeldTold}
use Rattle.exports.proofs.layout as Y
use Rattle.exports.proofs.book as B
use Rattle.exports.proofs.ledger as P
use Rattle.exports.proofs.feed as F
use Rattle.exports.proofs.receiving as R
use Rattle.single.specs.One.{One, OneWith, one}
use Rattle.orderbook.specs.Lent.{counts_in}
use Rattle.position.specs.Lent.{totals_in}
use Rattle.single.specs.Rows.{Rows, book_of_rows, rows_in, ThreeRows, ledger_of_rows, ledger_rows_in}

-- an answer in numbers, and the whole of the lent memory
one_left : (d : Left Told) (x y : Told) (m n : List ℕ) → record { answer = x; memory = m } ≡ d → record { answer = y; memory = n } ≡ d → (x ≡ y) × (m ≡ n)
one_left d x y m n p q = let e = p ∙ sym q in (ap (λ (u : Left Told). u.answer) e, ap (λ (u : Left Told). u.memory) e)

-- a book that is lent as its rows, after a change
abbrev made : Rows → CountsTold → BookTold
made w r = record { book = book_of_rows w r.counts; told = r.told }

one-made : (d : BookTold) (v w : Rows) (x y : CountsTold) → made v x ≡ d → made w y ≡ d → (x ≡ y) × (v ≡ w)
one-made d v w x y p q =
    let e : made v x ≡ made w y = p ∙ sym q in
    let n : x.counts ≡ y.counts = ap (λ (b : BookTold). counts_in b.book) e in
    let t : x.told ≡ y.told = ap (λ (b : BookTold). b.told) e in
    (λ i. record { counts = n i; told = t i }, ap (λ (b : BookTold). rows_in b.book) e)

-- a receiver that is lent as its rows, after a line
abbrev turned : Rows → TurnTold → HeldTold
turned w r = record { receiver = record { state = r.state; book = book_of_rows w r.counts }; told = r.told }

one-turned : (d : HeldTold) (v w : Rows) (x y : TurnTold) → turned v x ≡ d → turned w y ≡ d → (x ≡ y) × (v ≡ w)
one-turned d v w x y p q =
    let e : turned v x ≡ turned w y = p ∙ sym q in
    let m : x.state ≡ y.state = ap (λ (h : HeldTold). h.receiver.state) e in
    let n : x.counts ≡ y.counts = ap (λ (h : HeldTold). counts_in h.receiver.book) e in
    let t : x.told ≡ y.told = ap (λ (h : HeldTold). h.told) e in
    (λ i. record { state = m i; counts = n i; told = t i }, ap (λ (h : HeldTold). rows_in h.receiver.book) e)

-- a ledger that is lent as its rows, after a change
abbrev booked : ThreeRows → TotalsTold → LedgerTold
booked w r = record { ledger = ledger_of_rows w r.totals; told = r.told }

one-booked : (d : LedgerTold) (v w : ThreeRows) (x y : TotalsTold) → booked v x ≡ d → booked w y ≡ d → (x ≡ y) × (v ≡ w)
one-booked d v w x y p q =
    let e : booked v x ≡ booked w y = p ∙ sym q in
    let n : x.totals ≡ y.totals = ap (λ (l : LedgerTold). totals_in l.ledger) e in
    let t : x.told ≡ y.told = ap (λ (l : LedgerTold). l.told) e in
    (λ i. record { totals = n i; told = t i }, ap (λ (l : LedgerTold). ledger_rows_in l.ledger) e)

-- and after a day's fills
abbrev day_left : ThreeRows → DayTold → LedgerDay
day_left w r = record { ledger = ledger_of_rows w r.totals; taken = r.taken; told = r.told }

one_day_left : (d : LedgerDay) (v w : ThreeRows) (x y : DayTold) → day_left v x ≡ d → day_left w y ≡ d → (x ≡ y) × (v ≡ w)
one_day_left d v w x y p q =
    let e : day_left v x ≡ day_left w y = p ∙ sym q in
    let n : x.totals ≡ y.totals = ap (λ (l : LedgerDay). totals_in l.ledger) e in
    let k : x.taken ≡ y.taken = ap (λ (l : LedgerDay). l.taken) e in
    let t : x.told ≡ y.told = ap (λ (l : LedgerDay). l.told) e in
    (λ i. record { totals = n i; taken = k i; told = t i }, ap (λ (l : LedgerDay). ledger_rows_in l.ledger) e)

-- the archive
module _ where
  pub wermazul_layout : One Y.wermazul_layout.Reads.Learnt
  wermazul_layout κs a s t = one _

-- the book: of a change the four rows too, and of the writer the whole memory, which is the last parameter
module _ where
  pub wermazul_book : One B.wermazul_book.Reads.Learnt
  wermazul_book κs a s t = one _

  pub wermazul_is_book : One B.wermazul_is_book.Reads.Learnt
  wermazul_is_book κs a s t = one _

  pub wermazul_apply_delta : OneWith B.wermazul_apply_delta.Reads.Learnt {X = Rows} (λ κs s. (s.0.now, s.1.0.now, s.1.1.0.now, s.1.1.1.0.now))
  wermazul_apply_delta κs a s t x y = one-made _ _ _ x y

  pub wermazul_clear : OneWith B.wermazul_clear.Reads.Learnt {X = Rows} (λ κs s. (s.0.now, s.1.0.now, s.1.1.0.now, s.1.1.1.0.now))
  wermazul_clear κs a s t x y = one-made _ _ _ x y

  pub wermazul_remove_all : OneWith B.wermazul_remove_all.Reads.Learnt {X = Rows} (λ κs s. (s.0.now, s.1.0.now, s.1.1.0.now, s.1.1.1.0.now))
  wermazul_remove_all κs a s t x y = one-made _ _ _ x y

  pub wermazul_ask : One B.wermazul_ask.Reads.Learnt
  wermazul_ask κs a s t = one _

  pub wermazul_places : One B.wermazul_places.Reads.Learnt
  wermazul_places κs a s t = one _

  pub wermazul_list : OneWith B.wermazul_list.Reads.Learnt (λ κs s. s.1.1.1.1.1.1.1.1.1.0.now)
  wermazul_list κs a s t x y = one_left _ x y _ _

-- the ledger: of a fill and of a day's fills the three rows too
module _ where
  pub wermazul_ledger : One P.wermazul_ledger.Reads.Learnt
  wermazul_ledger κs a s t = one _

  pub wermazul_is_ledger : One P.wermazul_is_ledger.Reads.Learnt
  wermazul_is_ledger κs a s t = one _

  pub wermazul_apply_fill : OneWith P.wermazul_apply_fill.Reads.Learnt {X = ThreeRows} (λ κs s. (s.0.now, s.1.0.now, s.1.1.0.now))
  wermazul_apply_fill κs a s t x y = one-booked _ _ _ x y

  pub wermazul_apply_fills : OneWith P.wermazul_apply_fills.Reads.Learnt {X = ThreeRows} (λ κs s. (s.0.now, s.1.0.now, s.1.1.0.now))
  wermazul_apply_fills κs a s t x y = one_day_left _ _ _ x y

  pub wermazul_deposit : One P.wermazul_deposit.Reads.Learnt
  wermazul_deposit κs a s t x y p q = (one-booked _ _ _ x y p q).0

  pub wermazul_unrealized : One P.wermazul_unrealized.Reads.Learnt
  wermazul_unrealized κs a s t = one _

  pub wermazul_worth : One P.wermazul_worth.Reads.Learnt
  wermazul_worth κs a s t = one _

-- the lines of the feed: of the writers the whole memory too
module _ where
  pub wermazul_line_kind : One F.wermazul_line_kind.Reads.Learnt
  wermazul_line_kind κs a s t = one _

  pub wermazul_read_line : One F.wermazul_read_line.Reads.Learnt
  wermazul_read_line κs a s t = one _

  pub wermazul_line_end : One F.wermazul_line_end.Reads.Learnt
  wermazul_line_end κs a s t = one _

  pub wermazul_write_delta : OneWith F.wermazul_write_delta.Reads.Learnt (λ κs s. s.1.1.1.1.1.0.now)
  wermazul_write_delta κs a s t x y = one_left _ x y _ _

  pub wermazul_write_snapshot : OneWith F.wermazul_write_snapshot.Reads.Learnt (λ κs s. s.1.1.1.1.1.0.now)
  wermazul_write_snapshot κs a s t x y = one_left _ x y _ _

-- the receiver
module _ where
  pub wermazul_receiver : One R.wermazul_receiver.Reads.Learnt
  wermazul_receiver κs a s t = one _

  pub wermazul_take_line : OneWith R.wermazul_take_line.Reads.Learnt {X = Rows} (λ κs s. (s.0.now, s.1.0.now, s.1.1.0.now, s.1.1.1.0.now))
  wermazul_take_line κs a s t x y = one-turned _ _ _ x y

  pub wermazul_receiver_ask : One R.wermazul_receiver_ask.Reads.Learnt
  wermazul_receiver_ask κs a s t = one _

  pub wermazul_receiver_places : One R.wermazul_receiver_places.Reads.Learnt
  wermazul_receiver_places κs a s t = one _

  pub wermazul_receiver_list : OneWith R.wermazul_receiver_list.Reads.Learnt (λ κs s. s.1.1.1.1.1.1.1.1.1.1.0.now)
  wermazul_receiver_list κs a s t x y = one_left _ x y _ _
