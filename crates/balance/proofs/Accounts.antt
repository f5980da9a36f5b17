-- One event: by how much the account moves at it, whether it is taken or refused.
use Prim.Native.Nat.{ℕ}
use mathlib.Core.Path.{◌≡◌, refl, ap, ◌∙◌}
use mathlib.Core.Bool.{Bool, true, false, not, cond}
use mathlib.Core.List.{List, [], ◌∷◌}
use native.Mathlib.Omega.{arith}
use lib.IntN.{ℤ, pos, nat_abs, ◌+ℤ◌, ◌-ℤ◌}
use Rattle.amount.proofs.Identities.{as_difference, difference-same, ring}
use Rattle.amount.proofs.Sums.{sum_change}
use Rattle.types.specs.Limits.{symbols, sized_within, max_deposit}
use Rattle.types.specs.Runs.{if_done}
use Rattle.types.specs.declared.Side.{Side}
use Rattle.types.specs.declared.Side.TheVariants.{Bid, Ask}
use Rattle.holding.specs.Holding.{is_fill, signed, grows, charge, remainder_after, position_after}
use Rattle.holding.specs.declared.Position.{Position}
use Rattle.holding.specs.declared.Fill.{Fill}
use Rattle.holding.proofs.Holdings.{fill_in}
use Rattle.holding.proofs.Places.{put_here, put_elsewhere}
use Rattle.position.specs.Ledger.{position_at, is_money, is_ledger, Change, changed, kept, provided, cash_after, is_short, bears_fill, filled, settled, booked, with_cash, deposited}
use Rattle.position.specs.declared.PositionLedger.{PositionLedger}
use Rattle.position.proofs.Ledgers.{a_ledger}
use Rattle.balance.specs.Balance.{Event, fill, deposit, offered, at_average, held_at_average, realized_profits, account, deposit_of, Increase, increase_of, sum_over, long_remainders, short_remainders}
use Rattle.balance.proofs.Fills.{part_of, left_over, closing_leaves_none, filled_part}

-- ---- a taken fill

-- what a symbol's position costs, and what it has earned
abbrev cost_at : PositionLedger → ℕ → ℤ
cost_at l i = at_average (position_at l i)

abbrev earned_at : PositionLedger → ℕ → ℤ
earned_at l i = (position_at l i).realized.value

-- cash c, and h and r, one symbol's parts of the sums costs and profits, become c', h' and r': what they lose together, the account loses
gathered : (c c' costs profits h h' r r' o : ℤ) → c' +ℤ (h' -ℤ r') ≡ (c +ℤ (h -ℤ r)) -ℤ o
    → (c' +ℤ (costs +ℤ (h' -ℤ h))) -ℤ (profits +ℤ (r' -ℤ r)) ≡ ((c +ℤ costs) -ℤ profits) -ℤ o
gathered c c' costs profits h h' r r' o e =
    split c' costs profits h h' r r'
    ∙ ap (λ (z : ℤ). z +ℤ ((costs -ℤ h) -ℤ (profits -ℤ r))) e
    ∙ joined c costs profits h r o
  where
    split : (c' costs profits h h' r r' : ℤ)
        → (c' +ℤ (costs +ℤ (h' -ℤ h))) -ℤ (profits +ℤ (r' -ℤ r)) ≡ (c' +ℤ (h' -ℤ r')) +ℤ ((costs -ℤ h) -ℤ (profits -ℤ r))
    split c' costs profits h h' r r' =
        rw (as_difference c', as_difference costs, as_difference profits, as_difference h, as_difference h', as_difference r, as_difference r')
        (simp ring (omega (arith, difference-same)))

    joined : (c costs profits h r o : ℤ) → ((c +ℤ (h -ℤ r)) -ℤ o) +ℤ ((costs -ℤ h) -ℤ (profits -ℤ r)) ≡ ((c +ℤ costs) -ℤ profits) -ℤ o
    joined c costs profits h r o =
        rw (as_difference c, as_difference costs, as_difference profits, as_difference h, as_difference r, as_difference o)
        (simp ring (omega (arith, difference-same)))

filled-account : (l : PositionLedger) (f : Fill) → is_ledger l ≡ true → is_fill f ≡ true
    → account (filled l f) ≡ account l -ℤ left_over (position_at l f.symbol) f
unfolding filled
filled-account l f hl hf =
    let s = f.symbol in
    let m = filled l f in
    let old = position_at l s in
    let new = position_after old f in
    let rows = (a_ledger l hl).rows in
    let in-limit = (fill_in f hf).symbol_in in
    let here : position_at m s ≡ new = put_here l.quantities l.averages l.realized rows s in-limit new in
    let elsewhere = put_elsewhere l.quantities l.averages l.realized rows s in-limit new in
    let costs : held_at_average m ≡ held_at_average l +ℤ (cost_at m s -ℤ cost_at l s) =
    sum_change (cost_at l) (cost_at m) symbols s in-limit (λ i _ other. ap at_average (elsewhere i other)) in
    let profits : realized_profits m ≡ realized_profits l +ℤ (earned_at m s -ℤ earned_at l s) =
    sum_change (earned_at l) (earned_at m) symbols s in-limit (λ i _ other. ap (λ (p : Position). p.realized.value) (elsewhere i other)) in
    let one : m.cash.value +ℤ part_of (position_at m s) ≡ (l.cash.value +ℤ part_of old) -ℤ left_over old f =
    ap (λ (p : Position). cash_after l.cash.value f +ℤ part_of p) here ∙ filled_part old f l.cash.value in
    rw (costs, profits)
    (gathered l.cash.value m.cash.value (held_at_average l) (realized_profits l) (cost_at l s) (cost_at m s) (earned_at l s) (earned_at m s) (left_over old f) one)

-- what a fill leaves over, with its sign, is what it adds to the remainders of the one side or of the other
by_side : (a : ℤ) (s : Side) (g : Bool) (old v n x size : ℕ)
    → let is : List Increase = cond g (record { side = s; remainder = remainder_after true old v n x; size = size } ∷ []) [] in
    a -ℤ signed s (remainder_after g old v n x) ≡ ((a +ℤ pos 0) -ℤ pos (long_remainders is)) +ℤ pos (short_remainders is)
unfolding sum_over
by_side a Bid true old v n x size = rw (as_difference a) (simp ring (omega (arith, difference-same)))
by_side a Ask true old v n x size = rw (as_difference a) (simp ring (omega (arith, difference-same)))
by_side a Bid false old v n x size = rw (closing_leaves_none old v n x, as_difference a) (simp ring (omega (arith, difference-same)))
by_side a Ask false old v n x size = rw (closing_leaves_none old v n x, as_difference a) (simp ring (omega (arith, difference-same)))

-- ---- a taken deposit, and a refusal

more_cash : (c d costs profits : ℤ) → ((c +ℤ d) +ℤ costs) -ℤ profits ≡ ((((c +ℤ costs) -ℤ profits) +ℤ d) -ℤ pos 0) +ℤ pos 0
more_cash c d costs profits = rw (as_difference c, as_difference d, as_difference costs, as_difference profits) (simp ring (omega (arith, difference-same)))

pub unmoved : (a : ℤ) → a ≡ ((a +ℤ pos 0) -ℤ pos 0) +ℤ pos 0
unmoved a = rw (as_difference a) (simp ring (omega (arith, difference-same)))

-- ---- any event

module _ (l : PositionLedger) (e : Event) where
  -- the account moves by what the event brings in and leaves over, if it is taken
  abbrev pub Moves : Change → Type 0
  Moves c =
      let is = if_done c.reply (increase_of l e) [] in
      account c.ledger ≡ ((account l +ℤ if_done c.reply (deposit_of e) (pos 0)) -ℤ pos (long_remainders is)) +ℤ pos (short_remainders is)

  refusal : (n : ℕ) (vs : List ℤ) → Moves (kept l n vs)
  unfolding sum_over
  refusal n vs = unmoved (account l)

  -- a test that is not passed is a refusal
  whether : (t : Bool) (n : ℕ) (vs : List ℤ) (next : Change) → (t ≡ true → Moves next) → Moves (provided l t n vs next)
  whether true n vs next h = h refl
  whether false n vs next h = refusal n vs

pub account_moves : (l : PositionLedger) (e : Event) → Moves l e (offered l e)
unfolding booked settled deposited sum_over
account_moves l (fill f) =
    let p = position_at l f.symbol in
    let q = p.quantity.value in
    whether l (fill f) (is_ledger l) 1 [] _ (λ hl.
    whether l (fill f) (is_fill f) 2 [] _ (λ hf.
    whether l (fill f) (not (is_short f.side (cash_after l.cash.value f))) 8 (charge f ∷ l.cash.value ∷ []) _ (λ _.
    whether l (fill f) (bears_fill l f) 9 [] (changed (filled l f)) (λ _.
    filled-account l f hl hf ∙ by_side (account l) f.side (grows f.side q) (nat_abs q) p.average f.quantity f.price _))))
account_moves l (deposit d) =
    let m = with_cash l (l.cash.value +ℤ d) in
    whether l (deposit d) (is_ledger l) 1 [] _ (λ _.
    whether l (deposit d) (sized_within max_deposit d) 2 [] _ (λ _.
    whether l (deposit d) (is_money (l.cash.value +ℤ d)) 9 [] (changed m) (λ _.
    more_cash l.cash.value d (held_at_average l) (realized_profits l))))
