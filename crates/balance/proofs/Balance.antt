-- Nothing leaks from the account (specs/Balance.antt), proved.
use Prim.Native.Nat.{ℕ, ◌+◌, ◌≤◌}
use mathlib.Core.Path.{◌≡◌, refl, ap, subst, ◌∙◌}
use mathlib.Core.Bool.{true}
use mathlib.Core.List.{List, [], ◌∷◌, map}
use native.Mathlib.Omega.{arith}
use lib.ListN.{take}
use lib.IntN.{ℤ, pos, ◌+ℤ◌, ◌-ℤ◌}
use Rattle.amount.specs.Sums.{sum_to}
use Rattle.amount.proofs.Identities.{as_difference, difference-same, ring}
use Rattle.amount.proofs.Integers.{sub_size}
use Rattle.types.specs.Runs.{if_done}
use Rattle.position.specs.Ledger.{is_money, created, booked, booked_all}
use Rattle.position.specs.declared.PositionLedger.{PositionLedger}
use Rattle.holding.specs.declared.Fill.{Fill}
use Rattle.day.specs.Day.{day_booked}
use Rattle.day.proofs.Meaning.{as_singly}
use Rattle.balance.specs.Balance.{Event, fill, offered, offered_all, opened, account, deposit_of, deposits, Increase, increase_of, increases, sum_over, among_long, among_short, long_remainders, short_remainders, with_remainder, Balances, gap, Bounds, NothingLeaks, GapBounded, FromAnyLedger, DayAsHistory}
use Rattle.balance.proofs.Accounts.{unmoved, account_moves}
use Rattle.balance.proofs.Remainders.{sum_append, both_sides, increases_small, sum-bounded}

-- account a, deposits d and d', remainders m and m' of long positions, n and n' of short ones
after_event : (a d d' : ℤ) (m n m' n' : ℕ)
    → (((((a +ℤ d) -ℤ pos m) +ℤ pos n) +ℤ d') -ℤ pos m') +ℤ pos n' ≡ ((a +ℤ (d +ℤ d')) -ℤ pos (m + m')) +ℤ pos (n + n')
after_event a d d' m n m' n' = rw (as_difference a, as_difference d, as_difference d') (simp ring (omega (arith, difference-same)))

balances : (l : PositionLedger) (es : List Event) → Balances (account l) l es
unfolding offered_all deposits increases sum_over
balances l [] = unmoved (account l)
balances l (e ∷ es) =
    let m = (offered l e).ledger in
    let d = if_done (offered l e).reply (deposit_of e) (pos 0) in
    let is = if_done (offered l e).reply (increase_of l e) [] in
    let js = increases m es in
    balances m es
    ∙ ap (λ (a : ℤ). ((a +ℤ deposits m es) -ℤ pos (long_remainders js)) +ℤ pos (short_remainders js)) (account_moves l e)
    ∙ after_event (account l) d (deposits m es) (long_remainders is) (short_remainders is) (long_remainders js) (short_remainders js)
    ∙ rw (← sum_append (λ (i : Increase). among_long i.side i.remainder) is js, ← sum_append (λ (i : Increase). among_short i.side i.remainder) is js)

-- without the remainders, what is left is what they come to
remainders_alone : (a : ℤ) (m n : ℕ) → ((a -ℤ pos m) +ℤ pos n) -ℤ a ≡ pos n -ℤ pos m
remainders_alone a m n = rw (as_difference a) (simp ring (omega (arith, difference-same)))

bounds : (start : ℤ) (l : PositionLedger) (es : List Event) → Balances start l es → Bounds (with_remainder (increases l es)) (gap start l es)
bounds start l es h =
    let is = increases l es in
    let m = long_remainders is in
    let n = short_remainders is in
    let d = start +ℤ deposits l es in
    let e : account (offered_all l es) -ℤ d ≡ pos n -ℤ pos m = ap (λ (a : ℤ). a -ℤ d) h ∙ remainders_alone d m n in
    let k : gap start l es ≤ n + m = rw e (sub_size (pos n) (pos m)) in
    sum-bounded is (increases_small l es) (gap start l es) (omega (arith, k, both_sides is))

pub from_any_ledger : FromAnyLedger
from_any_ledger l es = (balances l es, bounds (account l) l es (balances l es))

-- a ledger is opened with its cash and nothing else
opened-account : (cash : ℤ) → is_money cash ≡ true → account (opened cash) ≡ cash
unfolding created sum_to
opened-account cash h = rw (h, opened) (rw (as_difference cash) (simp ring (omega (arith, difference-same))))

pub nothing_leaks : NothingLeaks
nothing_leaks cash es h = subst (λ (a : ℤ). Balances a (opened cash) es) (opened-account cash h) (balances (opened cash) es)

pub gap-bounded : GapBounded
gap-bounded cash es h = bounds cash (opened cash) es (nothing_leaks cash es h)

-- fills booked one after another are a history of fills
fills_alone : (l : PositionLedger) (fs : List Fill) → booked_all l fs ≡ offered_all l (map fill fs)
unfolding booked_all offered_all
fills_alone l [] = refl
fills_alone l (f ∷ fs) = fills_alone (booked l f).ledger fs

pub day_as_history : DayAsHistory
day_as_history l fs = as_singly l fs ∙ fills_alone l (take (day_booked l fs).taken fs)
