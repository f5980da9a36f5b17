-- Laws of averages and of lots after a fill: an average stays a price exactly while lots are held, and an increase divides exactly but
-- for its remainder.
use Prim.Native.Nat.{ℕ, zero, suc, ◌+◌, ◌*◌, ◌-◌, ◌/◌, ◌%◌, ◌≤◌, ◌<◌, min, zero-le, suc-le-suc}
use mathlib.Core.Path.{◌≡◌, refl}
use mathlib.Core.Bool.{Bool, true, false, cond, and-eq-true_iff}
use native.Mathlib.Nat.{le_refl, mul-le-mul, le-div_iff_mul-le, div-add-mod'}
use native.Mathlib.Omega.{arith}
use borrow.Author.Tests.{eqb-true, eqb-false, eq-eqb, ltb-true, ltb-false, leb-true, le-leb, not-true, not-false}
use lib.Dec.{eqb, leb, ltb}
use lib.IntN.{ℤ, pos, neg_ℤ, nat_abs, ◌+ℤ◌}
use Rattle.amount.proofs.Integers.{above, below, pos-above, pos-below, negated_above, negated_below, add_parts, one_part, size_parts, lt_z_true, lt_z_false}
use Rattle.types.specs.Limits.{is_price}
use Rattle.types.specs.declared.Side.{Side}
use Rattle.types.specs.declared.Side.TheVariants.{Bid, Ask}
use Rattle.holding.specs.Holding.{is_average, signed, grows, average_after, remainder_after}
use Rattle.holding.proofs.Holdings.{price_in, mixed_in}

-- ---- what being an average says

pub record AverageIn (size average : ℕ) : Type 0 where
  pub none : size ≡ 0 → average ≡ 0
  pub least : 0 < size → 1 ≤ average
  pub most : average ≤ 100000000

pub average_facts : (size average : ℕ) → is_average size average ≡ true → AverageIn size average
average_facts size average h = by (eqb size 0) refl h
  where
    by : (t : Bool) → eqb size 0 ≡ t → cond t (eqb average 0) (is_price average) ≡ true → AverageIn size average
    by true e h =
        let z : average ≡ 0 = eqb-true average 0 h in
        let y : size ≡ 0 = eqb-true size 0 e in
        record { none = λ _. z; least = λ p. absurd (omega arith); most = omega arith }
    by false e h =
        record {
          none = λ z. absurd (eqb-false size 0 e z);
          least = λ _. leb-true 1 average ((and-eq-true_iff (leb 1 average) _).0 h).0;
          most = price_in average h;
        }

pub facts_average : (size average : ℕ) → AverageIn size average → is_average size average ≡ true
facts_average size average h = by (eqb size 0) refl
  where
    by : (t : Bool) → eqb size 0 ≡ t → cond t (eqb average 0) (is_price average) ≡ true
    by true e = eq-eqb average 0 (h.none (eqb-true size 0 e))
    by false e =
        let z : size ≡ 0 → ⊥ = eqb-false size 0 e in
        rw (le-leb 1 average (h.least (omega arith))) (le-leb average 100000000 h.most)

-- ---- lots after a fill

-- the sizes of two numbers and of their sum, in parts
record Parts (x y : ℤ) : Type 0 where
  first : nat_abs x ≡ above x + below x
  sum : nat_abs (x +ℤ y) ≡ above (x +ℤ y) + below (x +ℤ y)
  one : min (above x) (below x) ≡ 0
  one-of-sum : min (above (x +ℤ y)) (below (x +ℤ y)) ≡ 0
  both : above (x +ℤ y) + (below x + below y) ≡ below (x +ℤ y) + (above x + above y)
  least : (above (pos 0) ≡ 0) × (below (pos 0) ≡ 0)

parts : (x y : ℤ) → Parts x y
parts x y = record {
  first = size_parts x;
  sum = size_parts (x +ℤ y);
  one = one_part x;
  one-of-sum = one_part (x +ℤ y);
  both = add_parts x y;
  least = (pos-above 0, pos-below 0);
}

-- lots on the position's own side add to it
pub grown_size : (s : Side) (q : ℤ) (n : ℕ) → grows s q ≡ true → nat_abs (q +ℤ signed s n) ≡ nat_abs q + n
grown_size Bid q n e = omega (arith, parts q (pos n), lt_z_false q (pos 0) (not-true _ e), pos-above n, pos-below n)
grown_size Ask q n e =
    omega (arith, parts q (neg_ℤ (pos n)), lt_z_false (pos 0) q (not-true _ e), negated_above (pos n), negated_below (pos n), pos-above n, pos-below n)

-- lots against it meet it: what is left is on the one side or on the other
pub met_size : (s : Side) (q : ℤ) (n : ℕ) → grows s q ≡ false → nat_abs (q +ℤ signed s n) ≡ (nat_abs q - n) + (n - nat_abs q)
met_size Bid q n e = omega (arith, parts q (pos n), lt_z_true q (pos 0) (not-false _ e), pos-above n, pos-below n)
met_size Ask q n e =
    omega (arith, parts q (neg_ℤ (pos n)), lt_z_true (pos 0) q (not-false _ e), negated_above (pos n), negated_below (pos n), pos-above n, pos-below n)

-- ---- averages after a fill

-- what an increase divides is the average times the new lots, and the remainder
pub increase_exact : (old v n x : ℕ) → average_after true old v n x * (old + n) + remainder_after true old v n x ≡ v * old + x * n
unfolding average_after remainder_after
increase_exact old v n x = by (eqb n 0) refl
  where
    by : (t : Bool) → eqb n 0 ≡ t → cond t v ((v * old + x * n) / (old + n)) * (old + n) + cond t 0 ((v * old + x * n) % (old + n)) ≡ v * old + x * n
    by true e = rw (eqb-true n 0 e) (omega arith)
    by false e = div-add-mod' (v * old + x * n) (old + n)

-- every lot held costs at least 1
lots_cost : (old v : ℕ) → (0 < old → 1 ≤ v) → old ≤ v * old
lots_cost zero v h = omega arith
lots_cost (suc k) v h = omega (arith, mul-le-mul (h (suc-le-suc zero-le)) (le_refl (suc k)))

module _ (old v n x : ℕ) (hv : AverageIn old v) (least : 1 ≤ x) (most : x ≤ 100000000) where
  grown_average : 0 < n → AverageIn (old + n) ((v * old + x * n) / (old + n))
  grown_average p =
      let a : 0 < old + n = omega arith in
      record {
        none = λ z. absurd (omega arith);
        least = λ _. (le-div_iff_mul-le a).1 (omega (arith, lots_cost old v hv.least, mul-le-mul least (le_refl n)));
        most = mixed_in v old x n 100000000 hv.most most;
      }

  pub average_stays : (g : Bool) (new : ℕ) → (g ≡ true → new ≡ old + n) → (g ≡ false → new ≡ (old - n) + (n - old)) → AverageIn new (average_after g old v n x)
  unfolding average_after
  average_stays g new hg hm = by g (eqb n 0) (ltb n old) (eqb n old) refl refl refl hg hm
    where
      by : (g t u w : Bool) → eqb n 0 ≡ t → ltb n old ≡ u → eqb n old ≡ w → (g ≡ true → new ≡ old + n) → (g ≡ false → new ≡ (old - n) + (n - old))
          → AverageIn new (cond t v (cond g ((v * old + x * n) / (old + n)) (cond u v (cond w 0 x))))
      by true true u w e f d hg hm = let z : new ≡ old = omega (arith, hg refl, eqb-true n 0 e) in rw z hv
      by false true u w e f d hg hm = let z : new ≡ old = omega (arith, hm refl, eqb-true n 0 e) in rw z hv
      by true false u w e f d hg hm =
          let z : n ≡ 0 → ⊥ = eqb-false n 0 e in
          rw (hg refl) (grown_average (omega arith))
      by false false true w e f d hg hm =
          let z : new ≡ old - n = omega (arith, hm refl, ltb-true n old f) in
          let l : n < old = ltb-true n old f in
          record { none = λ y. absurd (omega arith); least = λ _. hv.least (omega arith); most = hv.most }
      by false false false true e f d hg hm =
          let z : new ≡ 0 = omega (arith, hm refl, eqb-true n old d) in
          record { none = λ _. refl; least = λ p. absurd (omega arith); most = omega arith }
      by false false false false e f d hg hm =
          let z : n ≡ old → ⊥ = eqb-false n old d in
          let y : new ≡ n - old = omega (arith, hm refl, ltb-false n old f) in
          record { none = λ w. absurd (omega (arith, ltb-false n old f)); least = λ _. least; most = most }
