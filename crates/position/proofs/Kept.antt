-- What every change keeps (specs/Kept.antt), proved.
use Prim.Native.Nat.{ℕ}
use mathlib.Core.Path.{◌≡◌, refl, ◌∙◌}
use mathlib.Core.Bool.{Bool, true, false, not, cond, and-eq-true_iff}
use mathlib.Core.List.{List, [], ◌∷◌}
use borrow.Author.Tests.{eqb-true}
use lib.Dec.{eqb}
use lib.IntN.{ℤ, pos, nat_abs, ◌+ℤ◌}
use Rattle.amount.specs.Sums.{all_to}
use Rattle.types.specs.Limits.{sized_within, max_deposit, max_position, is_price}
use Rattle.types.specs.Replies.{done, refused}
use Rattle.types.proofs.Once.{never}
use Rattle.holding.specs.Holding.{is_position, is_fill, charge, position_after}
use Rattle.holding.specs.Rows.{are_positions}
use Rattle.position.specs.Ledger.{position_at, is_money, is_ledger, Change, changed, kept, provided, fresh, created, cash_after, bears_fill, is_short, filled, settled, booked, with_cash, deposited}
use Rattle.position.specs.Kept.{Keeps, FillKeeps, DepositKeeps, NewIsLedger, AveragesFit}
use Rattle.holding.specs.declared.Fill.{Fill}
use Rattle.position.specs.declared.PositionLedger.{PositionLedger}
use Rattle.holding.proofs.Stays.{position-stays}
use Rattle.holding.proofs.Holdings.{fill_in}
use Rattle.holding.proofs.Places.{RowsIn, rows_of, put-fits}
use Rattle.position.proofs.Ledgers.{a_ledger}

-- the ledger's parts make it one
ledger_of : (l : PositionLedger) → is_money l.cash.value ≡ true → is_money l.commission.value ≡ true → RowsIn l.quantities l.averages l.realized → is_ledger l ≡ true
unfolding is_ledger
ledger_of l hc hk h = rw (hc, hk) (rows_of l.quantities l.averages l.realized h)

module _ (l : PositionLedger) where
  keeps_done : (m : PositionLedger) → is_ledger m ≡ true → Keeps l (changed m)
  keeps_done m h = record { ledger = λ _. h; same = λ n vs e. never _ n vs refl e }

  -- a test that is not passed keeps the ledger
  keeps_provided : (t : Bool) (n : ℕ) (vs : List ℤ) (next : Change) → (t ≡ true → Keeps l next) → Keeps l (provided l t n vs next)
  keeps_provided true n vs next h = h refl
  keeps_provided false n vs next h = record { ledger = λ e. never _ n vs e refl; same = λ m us e. refl }

pub filled_ledger : (l : PositionLedger) (f : Fill) → is_ledger l ≡ true → is_fill f ≡ true → bears_fill l f ≡ true → is_ledger (filled l f) ≡ true
unfolding filled
filled_ledger l f hl hf hb =
    let p = position_after (position_at l f.symbol) f in
    let a = (and-eq-true_iff (is_money (cash_after l.cash.value f)) _).0 hb in
    let b = (and-eq-true_iff (is_money (l.commission.value +ℤ f.commission.value)) _).0 a.1 in
    let c = (and-eq-true_iff (sized_within max_position p.quantity.value) _).0 b.1 in
    let w = (a_ledger l hl).rows in
    let here = (fill_in f hf).symbol_in in
    ledger_of (filled l f) a.0 b.0
    (put-fits l.quantities l.averages l.realized w f.symbol here p (position-stays (position_at l f.symbol) f (w.each f.symbol here) hf c.0 c.1))

pub fill_keeps : FillKeeps
unfolding booked settled
fill_keeps l f =
    keeps_provided l (is_ledger l) 1 [] _ (λ h.
    keeps_provided l (is_fill f) 2 [] _ (λ hf.
    keeps_provided l (not (is_short f.side (cash_after l.cash.value f))) 8 _ _ (λ _.
    keeps_provided l _ 9 [] (changed (filled l f)) (λ hb. keeps_done l (filled l f) (filled_ledger l f h hf hb)))))

-- what is done went on
provided_done : (l : PositionLedger) (t : Bool) (n : ℕ) (vs : List ℤ) (next : Change)
    → (provided l t n vs next).reply ≡ done tt → (t ≡ true) × (next.reply ≡ done tt) × ((provided l t n vs next).ledger ≡ next.ledger)
provided_done l true n vs next e = (refl, e, refl)
provided_done l false n vs next e = never (refused n vs) n vs e refl

-- a taken fill leaves a ledger: the one after the fill
pub fill_done : (l : PositionLedger) (f : Fill) → (booked l f).reply ≡ done tt → ((booked l f).ledger ≡ filled l f) × (is_ledger (filled l f) ≡ true) × (is_fill f ≡ true)
unfolding booked settled
fill_done l f e =
    let a = provided_done l (is_ledger l) 1 [] _ e in
    let b = provided_done l (is_fill f) 2 [] _ a.1 in
    let c = provided_done l (not (is_short f.side (cash_after l.cash.value f))) 8 (charge f ∷ l.cash.value ∷ []) _ b.1 in
    let d = provided_done l _ 9 [] (changed (filled l f)) c.1 in
    (a.2 ∙ b.2 ∙ c.2 ∙ d.2, filled_ledger l f a.0 b.0 d.0, b.0)

pub deposit_keeps : DepositKeeps
unfolding deposited
deposit_keeps l d =
    let m = with_cash l (l.cash.value +ℤ d) in
    keeps_provided l (is_ledger l) 1 [] _ (λ h.
    keeps_provided l (sized_within max_deposit d) 2 [] _ (λ _.
    keeps_provided l (is_money (l.cash.value +ℤ d)) 9 [] (changed m) (λ hc.
    keeps_done l m (ledger_of m hc (a_ledger l h).paid (a_ledger l h).rows))))

pub new_is_ledger : NewIsLedger
unfolding created is_ledger are_positions is_position all_to
new_is_ledger cash = by (is_money cash) refl
  where
    by : (t : Bool) → is_money cash ≡ t → is_ledger (cond t (changed (fresh cash)) (kept (fresh (pos 0)) 2 [])).ledger ≡ true
    by true e = rw e
    by false e = refl

pub averages_fit : AveragesFit
unfolding is_position
averages_fit l h i m =
    let p = position_at l i in
    let a = (and-eq-true_iff (sized_within max_position p.quantity.value) _).0 ((a_ledger l h).rows.each i m) in
    by (eqb (nat_abs p.quantity.value) 0) p.average ((and-eq-true_iff (is_money p.realized.value) _).0 a.1).1
  where
    by : (t : Bool) (v : ℕ) → cond t (eqb v 0) (is_price v) ≡ true → is_price v ≡ not t
    by true v e = rw (eqb-true v 0 e)
    by false v e = e
