-- A fill leaves a position a position, as far as its lots and its profit stay within their limits.
use mathlib.Core.Path.{◌≡◌}
use mathlib.Core.Bool.{true, and-eq-true_iff}
use borrow.Author.Tests.{leb-true}
use lib.Dec.{leb, ltb}
use lib.IntN.{nat_abs, ◌+ℤ◌}
use Rattle.types.specs.Limits.{sized_within, symbols, max_position, max_money, is_price, is_quantity}
use Rattle.holding.specs.Holding.{is_position, is_fill, grows, signed, position_after, average_after}
use Rattle.holding.specs.declared.Position.{Position}
use Rattle.holding.specs.declared.Fill.{Fill}
use Rattle.holding.proofs.Averages.{average_facts, facts_average, grown_size, met_size, average_stays}
use Rattle.holding.proofs.Holdings.{price_in}

pub position-stays : (p : Position) (f : Fill) → is_position p ≡ true → is_fill f ≡ true
    → sized_within max_position (position_after p f).quantity.value ≡ true → sized_within max_money (position_after p f).realized.value ≡ true → is_position (position_after p f) ≡ true
unfolding is_position is_fill position_after
position-stays p f hp hf hq hr =
    let a = (and-eq-true_iff (sized_within max_position p.quantity.value) _).0 hp in
    let b = (and-eq-true_iff (sized_within max_money p.realized.value) _).0 a.1 in
    let c = (and-eq-true_iff (ltb f.symbol symbols) _).0 hf in
    let d = (and-eq-true_iff (is_quantity f.quantity) _).0 c.1 in
    let x : is_price f.price ≡ true = ((and-eq-true_iff (is_price f.price) _).0 d.1).0 in
    let q = p.quantity.value in
    let s = f.side in
    let n = f.quantity in
    rw (hq, hr)
    (facts_average (nat_abs (q +ℤ signed s n)) (average_after (grows s q) (nat_abs q) p.average n f.price)
    (average_stays (nat_abs q) p.average n f.price (average_facts (nat_abs q) p.average b.1)
    (leb-true 1 f.price ((and-eq-true_iff (leb 1 f.price) _).0 x).0) (price_in f.price x)
    (grows s q) (nat_abs (q +ℤ signed s n)) (grown_size s q n) (met_size s q n)))
