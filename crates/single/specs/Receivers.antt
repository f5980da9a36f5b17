-- The calls of crates receiver and receiver_questions.
use Rattle.std.specs.Prelude.{◌≡◌}
use Rattle.std.proofs.Common.{ap, sym, ◌∙◌}
use Rattle.types.specs.Answers.{reply_of}
use Rattle.types.proofs.Once.{one_answer}
use Rattle.listings.proofs.Once.{one_left}
use Rattle.receiver.specs.declared.rows.Turned.{Turned}
use Rattle.receiver.specs.Turns.{Turn}
use Rattle.receiver.proofs.Kept.{one-turn}
use Rattle.receiver.proofs as S
use Rattle.receiver.proofs.Receiver as R
use Rattle.receiver.proofs.rows as L
use Rattle.receiver_questions.proofs as Q
use Rattle.single.specs.One.{One, OneWith, OnePart, one, one_part}
use Rattle.orderbook.specs.Lent.{counts_in}
use Rattle.single.specs.Rows.{Rows, book_of_rows, rows_in}

-- the record, and its turn at a line: the receiver and the outcome
module _ where
  pub new : One R.new.Reads.Learnt
  new κs a s t = one _

  pub is_receiver_lem : One R.is_receiver.Reads.Learnt
  is_receiver_lem κs a s t = one _

  pub take_line : One R.take_line.Reads.Learnt
  take_line κs a s t = one-turn _

-- a receiver that is changed in place: the outcome, and the receiver as the call returns
module _ where
  pub apply : OneWith R.apply.Reads.Learnt (λ κs s. s.0.now)
  apply κs a s t x y p q = (one_answer _ x y (ap (λ (u : Turn). u.reply) p) (ap (λ (u : Turn). u.reply) q), ap (λ (u : Turn). u.receiver) (p ∙ sym q))

-- what the rows, the state and the counts make, and the outcome's reply
abbrev made : Rows → Turned → Turn
made w r = record { receiver = record { state = r.state; book = book_of_rows w r.counts }; reply = reply_of r.outcome }

-- one answer, and one content of the rows
one-made : (d : Turn) (v w : Rows) (x y : Turned) → made v x ≡ d → made w y ≡ d → (x ≡ y) × (v ≡ w)
one-made d v w x y p q =
    let e : made v x ≡ made w y = p ∙ sym q in
    let o : x.outcome ≡ y.outcome = one_answer d.reply x.outcome y.outcome (ap (λ (u : Turn). u.reply) p) (ap (λ (u : Turn). u.reply) q) in
    let n : x.counts ≡ y.counts = ap (λ (u : Turn). counts_in u.receiver.book) e in
    let m : x.state ≡ y.state = ap (λ (u : Turn). u.receiver.state) e in
    (λ i. record { state = m i; counts = n i; outcome = o i }, ap (λ (u : Turn). rows_in u.receiver.book) e)

-- a receiver that is lent as its rows: the four rows after a line too
module _ where
  pub rows-take-line : OneWith L.take_line.Reads.Learnt {X = Rows} (λ κs s. (s.0.now, s.1.0.now, s.1.1.0.now, s.1.1.1.0.now))
  rows-take-line κs a s t x y = one-made _ _ _ x y

-- any question, and the places of a listing
module _ where
  pub ask_at : One Q.ask_at.Reads.Learnt
  ask_at κs a s t = one_answer _

  pub ask : One Q.ask.Reads.Learnt
  ask κs a s t = one_answer _

  pub places_at : One Q.places_at.Reads.Learnt
  places_at κs a s t = one_answer _

  pub places : One Q.places.Reads.Learnt
  places κs a s t = one_answer _

-- the writers: the answer and the whole buffer, which is the last parameter; and the call that hands back a part of it
module _ where
  pub write_at : OneWith Q.write_at.Reads.Learnt (λ κs s. s.1.1.1.0.now)
  write_at κs a s t x y = one_left _ x y _ _

  pub write : OneWith Q.write.Reads.Learnt (λ κs s. s.1.1.0.now)
  write κs a s t x y = one_left _ x y _ _

  pub list : OnePart Q.list.Reads.Learnt
  list κs a s t x y = one_part

-- a state by its number
module _ where
  pub state_of : One S.StateFromBool.from.Reads.Learnt
  state_of κs a s t = one _

  pub state_number_lem : One S.U64FromState.from.Reads.Learnt
  state_number_lem κs a s t = one _
