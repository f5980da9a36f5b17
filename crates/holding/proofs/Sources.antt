-- What the original's position is to ours (specs/Source.antt), proved.
use Prim.Native.Nat.{ℕ, ◌+◌, ◌*◌, ◌-◌, ◌≤◌, ◌<◌}
use mathlib.Core.Path.{◌≡◌, refl, sym, ◌∙◌}
use mathlib.Core.Bool.{Bool, true, false, and-eq-true_iff}
use native.Mathlib.Nat.{le_refl, mul-le-mul, div-add-mod', mod-lt}
use native.Mathlib.Omega.{arith}
use borrow.Author.Tests.{eqb-true, eqb-false, eq-eqb, ltb-true, ltb-false, lt-ltb, le-ltb, leb-false, le-leb, lt-leb}
use lib.Dec.{eqb, ltb}
use lib.IntN.{nat_abs}
use Rattle.amount.specs.declared.Amount.{Amount}
use Rattle.types.specs.Limits.{sized_within, max_position, max_money}
use Rattle.holding.specs.Holding.{is_average, is_position, grows, average_after, remainder_after, position_after}
use Rattle.holding.specs.Source.{is_small_turnover, source_average, RoundsDown, AveragesRoundDown, SourceIsOurs}
use Rattle.holding.specs.declared.Position.{Position}
use Rattle.holding.proofs.Averages.{average_facts}

module _ (old v n x : ℕ) (hv : is_average old v ≡ true) where
  increase : (t z : Bool) → eqb n 0 ≡ t → eqb (old + n) 0 ≡ z → RoundsDown true old v n x
  unfolding average_after remainder_after source_average
  increase true true e f =
      let y : old ≡ 0 = omega (arith, eqb-true (old + n) 0 f) in
      rw (e, f) (omega (arith, (average_facts old v hv).none y), omega arith)
  increase true false e f =
      let z : n ≡ 0 = eqb-true n 0 e in
      rw (e, f, le-ltb 0 n (omega arith), le-leb (old + n) old (omega arith)) (omega arith, omega arith)
  increase false true e f = absurd (eqb-false n 0 e (omega (arith, eqb-true (old + n) 0 f)))
  increase false false e f =
      let z : n ≡ 0 → ⊥ = eqb-false n 0 e in
      rw (e, f, lt-ltb 0 n (omega arith)) (div-add-mod' (v * old + x * n) (old + n), mod-lt (v * old + x * n) (omega arith))

  decrease : (t u w z : Bool) → eqb n 0 ≡ t → ltb n old ≡ u → eqb n old ≡ w → eqb (old - n + (n - old)) 0 ≡ z → is_small_turnover false old n ≡ false → RoundsDown false old v n x
  unfolding average_after remainder_after source_average
  decrease true u w true e f d k h =
      let y : old ≡ 0 = omega (arith, eqb-true n 0 e, eqb-true (old - n + (n - old)) 0 k) in
      rw (e, k) (omega (arith, (average_facts old v hv).none y), omega arith)
  decrease false u w true e f d k h =
      let y : n ≡ old = omega (arith, eqb-true (old - n + (n - old)) 0 k) in
      rw (e, le-ltb n old (omega arith), eq-eqb n old y, k) (omega arith, omega arith)
  decrease true u w false e f d k h = rw (e, k, le-leb (old - n + (n - old)) old (omega (arith, eqb-true n 0 e))) (omega arith, omega arith)
  decrease false true w false e f d k h =
      rw (e, f, k, le-leb (old - n + (n - old)) old (omega (arith, ltb-true n old f))) (omega arith, omega arith)
  decrease false false true false e f d k h = absurd (eqb-false (old - n + (n - old)) 0 k (omega (arith, eqb-true n old d)))
  decrease false false false false e f d k h =
      let l : old ≤ n = ltb-false n old f in
      let y : n ≡ old → ⊥ = eqb-false n old d in
      let m : old + old < n = leb-false n (old + old) (rw (lt-ltb old n (omega arith)) at h) in
      rw (e, f, d, k, lt-leb (old - n + (n - old)) old (omega arith)) (omega arith, omega arith)

pub averages_round_down : AveragesRoundDown
averages_round_down true old v n x hv h = increase old v n x hv (eqb n 0) (eqb (old + n) 0) refl refl
averages_round_down false old v n x hv h = decrease old v n x hv (eqb n 0) (ltb n old) (eqb n old) (eqb (old - n + (n - old)) 0) refl refl refl refl h

-- a quotient that comes out whole has no remainder
whole : (w a d r : ℕ) → w * d ≡ a * d + r → r < d → w ≡ a
whole w a d r e h =
    let p : (w < a → ⊥) = λ l. omega (arith, mul-le-mul l (le_refl d)) in
    let q : (a < w → ⊥) = λ l. omega (arith, mul-le-mul l (le_refl d)) in
    omega arith

same_parts : {a b r s : Amount} {v w : ℕ} → a ≡ b → v ≡ w → r ≡ s
    → ◌≡◌ {A = Position} (record { quantity = a; average = v; realized = r }) (record { quantity = b; average = w; realized = s })
same_parts e f g = rw (e, f, g)

pub source_is_ours : SourceIsOurs
unfolding is_position position_after
source_is_ours p f q hp s =
    let g = grows f.side p.quantity.value in
    let old = nat_abs p.quantity.value in
    let a = (and-eq-true_iff (sized_within max_position p.quantity.value) _).0 hp in
    let b = (and-eq-true_iff (sized_within max_money p.realized.value) _).0 a.1 in
    let k = averages_round_down g old p.average f.quantity f.price b.1 s.plain in
    same_parts s.quantity
    (whole q.average (average_after g old p.average f.quantity f.price) _ (remainder_after g old p.average f.quantity f.price) (s.average ∙ sym k.0) k.1)
    s.realized
