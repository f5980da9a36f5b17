-- The calls of crate orderbook; the one over a lent record stands in Lent.
use Rattle.std.specs.Prelude.{◌≡◌, Result}
use Rattle.std.proofs.Common.{ap, sym, ◌∙◌}
use Rattle.types.specs.Answers.{reply_of}
use Rattle.types.proofs.Once.{one_answer}
use Rattle.types.specs.declared.Refusal.{Refusal}
use Rattle.deltas.specs.declared.Counts.{Counts}
use Rattle.orderbook.specs.Apply.{Change}
use Rattle.orderbook.proofs.Kept.{one_change}
use Rattle.orderbook.proofs.OrderBook as B
use Rattle.orderbook.proofs.rows as R
use Rattle.orderbook.proofs.lent.BookRows as L
use Rattle.single.specs.One.{One, OneWith, one}
use Rattle.levels.specs.Lent.{levels_in}
use Rattle.levels.specs.declared.lent.SideRows.{SideRows}
use Rattle.orderbook.specs.declared.lent.BookRows.{BookRows}
use Rattle.orderbook.specs.Lent.{book_in, counts_in}
use Rattle.single.specs.Rows.{Rows, book_of_rows, rows_in}

-- the record
module _ where
  pub new : One B.new.Reads.Learnt
  new κs a s t = one _

  pub is_book_lem : One B.is_book.Reads.Learnt
  is_book_lem κs a s t = one _

  pub side : One B.side.Reads.Learnt
  side κs a s t = one _

-- changes: the book and the outcome
module _ where
  pub apply_delta : One B.apply_delta.Reads.Learnt
  apply_delta κs a s t = one_change _

  pub clear : One B.clear.Reads.Learnt
  clear κs a s t = one_change _

  pub remove_all : One B.remove_all.Reads.Learnt
  remove_all κs a s t = one_change _

-- a book that is changed in place: the outcome, and the book as the call returns
module _ where
  pub apply : OneWith B.apply.Reads.Learnt (λ κs s. s.0.now)
  apply κs a s t x y p q = (one_answer _ x y (ap (λ (c : Change). c.reply) p) (ap (λ (c : Change). c.reply) q), ap (λ (c : Change). c.book) (p ∙ sym q))

  pub counts : One B.counts.Reads.Learnt
  counts κs a s t = one _

-- the rows and the counts of a book that is lent as these
abbrev Lent : Type 0
Lent = Rows × Counts

-- what the rows and the counts make, and the outcome's reply
abbrev made : Lent → Result (Unit {0}) Refusal → Change
made w r = record { book = book_of_rows w.0 w.1; reply = reply_of r }

-- one answer, and one content of the rows and the counts
one-made : (d : Change) (v w : Lent) (x y : Result (Unit {0}) Refusal) → made v x ≡ d → made w y ≡ d → (x ≡ y) × (v ≡ w)
one-made d v w x y p q =
    let e : made v x ≡ made w y = p ∙ sym q in
    (one_answer d.reply x y (ap (λ (c : Change). c.reply) p) (ap (λ (c : Change). c.reply) q), ap (λ (c : Change). (rows_in c.book, counts_in c.book)) e)

-- a book that is lent as its rows: the test, and each change with the four rows and the counts after it
module _ where
  pub rows_is_book : One R.is_book.Reads.Learnt
  rows_is_book κs a s t x y p q = one _ x y p.0 q.0

  pub rows_apply_delta : OneWith R.apply_delta.Reads.Learnt {X = Lent} (λ κs s. ((s.0.now, s.1.0.now, s.1.1.0.now, s.1.1.1.0.now), s.1.1.1.1.0.now))
  rows_apply_delta κs a s t x y = one-made _ _ _ x y

  pub rows_clear : OneWith R.clear.Reads.Learnt {X = Lent} (λ κs s. ((s.0.now, s.1.0.now, s.1.1.0.now, s.1.1.1.0.now), s.1.1.1.1.0.now))
  rows_clear κs a s t x y = one-made _ _ _ x y

  pub rows-remove-all : OneWith R.remove_all.Reads.Learnt {X = Lent} (λ κs s. ((s.0.now, s.1.0.now, s.1.1.0.now, s.1.1.1.0.now), s.1.1.1.1.0.now))
  rows-remove-all κs a s t x y = one-made _ _ _ x y

-- a book that is lent to be read
module _ where
  pub lent_is_book : One L.is_book.Reads.Learnt
  lent_is_book κs a s t = one _

  pub lent_counts : One L.counts.Reads.Learnt
  lent_counts κs a s t = one _

-- The calls that lend a book's rows, or a side's, are the listed exception: a promise speaks of what stands in the rows, and not of where they
-- stand. Any two results make the same book, or the same side.
module _ {L : Type 0} {A S : L → Type 0} (Learnt : (κs : L) → A κs → BookRows → S κs → Type 0) where
  abbrev OneBook : Type 0
  OneBook = (κs : L) (a : A κs) (s t : S κs) (x y : BookRows) → Learnt κs a x s → Learnt κs a y t → book_in x ≡ book_in y

module _ {L : Type 0} {A S : L → Type 0} (Learnt : (κs : L) → A κs → SideRows → S κs → Type 0) where
  abbrev OneSide : Type 0
  OneSide = (κs : L) (a : A κs) (s t : S κs) (x y : SideRows) → Learnt κs a x s → Learnt κs a y t → levels_in x ≡ levels_in y

module _ where
  pub lent_of : OneBook L.of.Reads.Learnt
  lent_of κs a s t x y p q = p ∙ sym q

  pub rows : OneBook B.rows.Reads.Learnt
  rows κs a s t x y p q = p ∙ sym q

  pub lent_side : OneSide L.side.Reads.Learnt
  lent_side κs a s t x y p q = p ∙ sym q
