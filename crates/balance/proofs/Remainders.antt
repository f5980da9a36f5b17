-- Laws of increases: their sums, that only those that leave a remainder count, and that each leaves less than the size of its new quantity.
use Prim.Native.Nat.{ℕ, ◌+◌, ◌*◌, ◌≤◌, ◌<◌}
use mathlib.Core.Path.{◌≡◌, refl}
use mathlib.Core.Bool.{true}
use mathlib.Core.List.{List, [], ◌∷◌, ◌++◌}
use native.Mathlib.Nat.{mod-lt, mul-mod_left}
use native.Mathlib.Omega.{arith}
use borrow.Author.Tests.{eqb-true, eqb-false}
use lib.Dec.{eqb}
use lib.IntN.{nat_abs}
use Rattle.types.specs.Replies.{Reply, done, refused}
use Rattle.types.specs.Runs.{if_done}
use Rattle.types.specs.declared.Side.{Side}
use Rattle.types.specs.declared.Side.TheVariants.{Bid, Ask}
use Rattle.types.proofs.Booleans.{by}
use Rattle.holding.specs.Holding.{grows, remainder_after, position_after}
use Rattle.holding.specs.declared.Position.{Position}
use Rattle.holding.specs.declared.Fill.{Fill}
use Rattle.holding.proofs.Averages.{grown_size}
use Rattle.position.specs.Ledger.{position_at}
use Rattle.position.specs.declared.PositionLedger.{PositionLedger}
use Rattle.balance.specs.Balance.{Event, fill, deposit, offered, Increase, increase_by, increase_of, increases, sum_over, among_long, among_short, long_remainders, short_remainders, with_remainder, Bounds, NoRemainder, NoDifference}

-- ---- sums

pub sum_append : (counted : Increase → ℕ) (is js : List Increase) → sum_over counted (is ++ js) ≡ sum_over counted is + sum_over counted js
unfolding sum_over
sum_append counted [] js = omega arith
sum_append counted (i ∷ is) js = omega (arith, sum_append counted is js)

-- what counts 0 for an increase that leaves nothing, counts the same without them
sum_with_remainder : (counted : Increase → ℕ) → ((i : Increase) → i.remainder ≡ 0 → counted i ≡ 0)
    → (is : List Increase) → sum_over counted (with_remainder is) ≡ sum_over counted is
unfolding sum_over with_remainder
sum_with_remainder counted nothing [] = refl
sum_with_remainder counted nothing (i ∷ is) =
    let rest = sum_with_remainder counted nothing is in
    by (eqb i.remainder 0)
    (λ e. rw e (omega (arith, rest, nothing i (eqb-true i.remainder 0 e))))
    (λ e. rw e (omega (arith, rest)))

with_remainder_twice : (is : List Increase) → with_remainder (with_remainder is) ≡ with_remainder is
unfolding with_remainder
with_remainder_twice [] = refl
with_remainder_twice (i ∷ is) =
    let rest = with_remainder_twice is in
    by (eqb i.remainder 0) (λ e. rw e rest) (λ e. rw (e, e, rest))

long_none : (s : Side) (n : ℕ) → n ≡ 0 → among_long s n ≡ 0
long_none Bid n e = e
long_none Ask n e = refl

short_none : (s : Side) (n : ℕ) → n ≡ 0 → among_short s n ≡ 0
short_none Bid n e = refl
short_none Ask n e = e

pub no_difference : NoDifference
no_difference is = (
  sum_with_remainder (λ (i : Increase). among_long i.side i.remainder) (λ i e. long_none i.side i.remainder e) is,
  sum_with_remainder (λ (i : Increase). among_short i.side i.remainder) (λ i e. short_none i.side i.remainder e) is,
  with_remainder_twice is,
)

-- each remainder is one of a long position or of a short one
pub both_sides : (is : List Increase) → long_remainders is + short_remainders is ≡ sum_over (λ (i : Increase). i.remainder) is
unfolding sum_over
both_sides [] = refl
both_sides (i ∷ is) = omega (arith, both_sides is, one i.side i.remainder)
  where
    one : (s : Side) (n : ℕ) → among_long s n + among_short s n ≡ n
    one Bid n = omega arith
    one Ask n = omega arith

-- ---- how much one leaves

first-leaves-none : (v n x : ℕ) → remainder_after true 0 v n x ≡ 0
unfolding remainder_after
first-leaves-none v n x =
    let dividend : v * 0 + x * n ≡ x * n = omega arith in
    let divisor : 0 + n ≡ n = omega arith in
    by (eqb n 0) (λ e. rw e) (λ e. rw (e, dividend, divisor) (mul-mod_left x n))

no_lots_leave_none : (old v x : ℕ) → remainder_after true old v 0 x ≡ 0
unfolding remainder_after
no_lots_leave_none old v x = refl

pub no_remainder : NoRemainder
unfolding with_remainder
no_remainder f p =
    let q = p.quantity.value in (
      λ e. by (grows f.side q) (λ g. rw (g, e, first-leaves-none p.average f.quantity f.price)) (λ g. rw g),
      λ e. by (grows f.side q) (λ g. rw (g, e, no_lots_leave_none (nat_abs q) p.average f.price)) (λ g. rw g),
    )

-- less than the size of the new quantity, if anything
abbrev pub Small : Increase → Type 0
Small i = (i.remainder ≡ 0 → ⊥) → i.remainder < i.size

abbrev pub AllSmall : List Increase → Type 0
AllSmall [] = Unit {0}
AllSmall (i ∷ is) = Small i × AllSmall is

all_append : (is js : List Increase) → AllSmall is → AllSmall js → AllSmall (is ++ js)
all_append [] js a b = b
all_append (i ∷ is) js a b = (a.0, all_append is js a.1 b)

remainder_small : (old v n x : ℕ) → (remainder_after true old v n x ≡ 0 → ⊥) → remainder_after true old v n x < old + n
unfolding remainder_after
remainder_small old v n x =
    by (eqb n 0)
    (λ e. rw e (λ some. absurd (some refl)))
    (λ e. rw e (λ some. let z : n ≡ 0 → ⊥ = eqb-false n 0 e in mod-lt (v * old + x * n) (omega arith)))

increase_small : (f : Fill) (p : Position) → AllSmall (increase_by f p)
unfolding position_after
increase_small f p =
    let q = p.quantity.value in
    by (grows f.side q)
    (λ e. rw e (λ some. omega (arith, grown_size f.side q f.quantity e, remainder_small (nat_abs q) p.average f.quantity f.price some), tt))
    (λ e. rw e tt)

pub increases_small : (l : PositionLedger) (es : List Event) → AllSmall (increases l es)
unfolding increases
increases_small l [] = tt
increases_small l (e ∷ es) =
    let m = (offered l e).ledger in
    all_append (if_done (offered l e).reply (increase_of l e) []) (increases m es) (taken (offered l e).reply e) (increases_small m es)
  where
    taken : (r : Reply (Unit {0})) (e : Event) → AllSmall (if_done r (increase_of l e) [])
    taken (done u) (fill f) = increase_small f (position_at l f.symbol)
    taken (done u) (deposit d) = tt
    taken (refused n vs) e = tt

-- ---- how much they leave together

-- no more than the sizes of those that leave some
sizes : (is : List Increase) → AllSmall is → sum_over (λ (i : Increase). i.remainder) is ≤ sum_over (λ (i : Increase). i.size) (with_remainder is)
unfolding sum_over with_remainder
sizes [] a = omega arith
sizes (i ∷ is) a =
    let rest = sizes is a.1 in
    by (eqb i.remainder 0)
    (λ e. rw e (omega (arith, rest, eqb-true i.remainder 0 e)))
    (λ e. rw e (omega (arith, rest, a.0 (eqb-false i.remainder 0 e))))

-- and less, where there are such
pub sum-bounded : (is : List Increase) → AllSmall is → (n : ℕ) → n ≤ sum_over (λ (i : Increase). i.remainder) is → Bounds (with_remainder is) n
unfolding sum_over with_remainder
sum-bounded [] a n h = omega arith
sum-bounded (i ∷ is) a n h =
    by (eqb i.remainder 0)
    (λ e. rw e (sum-bounded is a.1 n (omega (arith, h, eqb-true i.remainder 0 e))))
    (λ e. rw e (omega (arith, h, a.0 (eqb-false i.remainder 0 e), sizes is a.1)))
