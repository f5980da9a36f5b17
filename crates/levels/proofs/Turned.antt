-- Prices with their highest bit turned: those in the limits keep their order, and no other number is turned to where they are.
use Prim.Native.Nat.{ℕ, zero, suc, ◌+◌, ◌*◌, ◌-◌, ◌/◌, ◌%◌, ◌^◌, ◌≤◌, ◌<◌}
use native.Mathlib.Omega.{arith}
use mathlib.Core.Path.{◌≡◌, refl, sym, ◌∙◌}
use mathlib.Core.Bool.{true, false, cond, ◌&&◌, and-eq-true_iff, and-false, false≢true}
use mathlib.Core.List.{List, [], ◌∷◌, map}
use lib.Bits.{bit_xor, bit_and, and_high, xor_add_and}
use lib.ListN.{length, take, drop, get_or, length-map, get_or-map}
use lib.Dec.{ltb, eqb}
use borrow.Author.Tests.{ltb-true, ltb-false, lt-ltb, le-ltb}
use Rattle.types.specs.Limits.{within, max_price}
use Rattle.types.specs.declared.Side.{Side}
use Rattle.types.specs.declared.Side.TheVariants.{Bid, Ask}
use Rattle.types.proofs.Booleans.{by}
use Rattle.levels.specs.Order.{ahead_of, leads, in_order, steps}
use Rattle.levels.specs.Formed.{every}
use Rattle.levels.proofs.Ends.{within_le, le_within, ends_row}
use Rattle.levels.proofs.Orders.{get_d_any}
use Rattle.levels.proofs.Rows.{steps-turn, steps_end}
use Rattle.levels.proofs.Steps.{order_by_steps}

abbrev pub turned : ℕ → ℕ
turned x = bit_xor x (2 ^ 31)

-- 2^31 is added to a number whose bit is 0, and taken from one whose bit is 1
turned-sum : (x : ℕ) → turned x + x / 2147483648 % 2 * 4294967296 ≡ x + 2147483648
turned-sum x =
    let a : bit_and x 2147483648 ≡ x / 2147483648 % 2 * 2147483648 = and_high x 1 31 in
    let b : bit_xor x 2147483648 + bit_and x 2147483648 * 2 ≡ x + 2147483648 = xor_add_and x 2147483648 in
    omega (arith, a, b)

turned-price : (x : ℕ) → within 1 max_price x ≡ true → turned x ≡ x + 2147483648
turned-price x h =
    let w = within_le 1 max_price x h in
    let q : x / 2147483648 ≡ 0 = omega arith in
    omega (arith, turned-sum x, q)

-- the limits of prices, turned
abbrev low : ℕ
low = 2147483649

abbrev high : ℕ
high = 2247483648

price-of : (x : ℕ) → low ≤ turned x → turned x ≤ high → (1 ≤ x) × (x ≤ max_price)
price-of x h k = (omega (arith, turned-sum x), omega (arith, turned-sum x))

turned-within : (x : ℕ) → within low high (turned x) ≡ within 1 max_price x
turned-within x =
    by (within 1 max_price x)
    (λ h. let w = within_le 1 max_price x h in let e = turned-price x h in rw h (le_within low high (turned x) (omega arith) (omega arith)))
    (λ h.
    rw h
    (by (within low high (turned x))
    (λ k. let w = within_le low high (turned x) k in let p = price-of x w.0 w.1 in absurd (false≢true (sym h ∙ le_within 1 max_price x p.0 p.1)))
    (λ k. k)))

every-turned : (xs : List ℕ) → every (within low high) (map turned xs) ≡ every (within 1 max_price) xs
unfolding every
every-turned [] = refl
every-turned (x ∷ xs) = rw (turned-within x, every-turned xs)

-- the order of prices in the limits
pub less_both : (k a b : ℕ) → ltb (a + k) (b + k) ≡ ltb a b
less_both k a b = by (ltb a b) (λ e. rw e (lt-ltb (a + k) (b + k) (omega (arith, ltb-true a b e)))) (λ e. rw e (le-ltb (a + k) (b + k) (omega (arith, ltb-false a b e))))

ahead_turned : (s : Side) (x y : ℕ) → within 1 max_price x ≡ true → within 1 max_price y ≡ true → ahead_of s (turned x) (turned y) ≡ ahead_of s x y
ahead_turned Bid x y h k = rw (turned-price x h, turned-price y k) (less_both 2147483648 y x)
ahead_turned Ask x y h k = rw (turned-price x h, turned-price y k) (less_both 2147483648 x y)

order_turned : (s : Side) (xs : List ℕ) → every (within 1 max_price) xs ≡ true → in_order s (map turned xs) ≡ in_order s xs
unfolding every in_order leads
order_turned s [] h = refl
order_turned s (x ∷ []) h = refl
order_turned s (x ∷ y ∷ ys) h =
    let a = (and-eq-true_iff (within 1 max_price x) _).0 h in
    let b = (and-eq-true_iff (within 1 max_price y) _).0 a.1 in
    rw (ahead_turned s x y a.0 b.0, order_turned s (y ∷ ys) a.1)

-- the first n places of a row
take-map : (n : ℕ) (xs : List ℕ) → take n (map turned xs) ≡ map turned (take n xs)
take-map zero xs = refl
take-map (suc n) [] = refl
take-map (suc n) (x ∷ xs) = rw (take-map n xs)

place_turned : (xs : List ℕ) (i : ℕ) → i < length xs → get_or (map turned xs) i 0 ≡ turned (get_or xs i 0)
place_turned xs i h = let m = length-map xs turned in get_d_any (map turned xs) i 0 (turned 0) (omega arith) ∙ get_or-map turned xs i 0

module _ (s : Side) (xs : List ℕ) (n : ℕ) where
  -- turned prices that are not in order were not, or were not all in the limits
  pub turned_out : in_order s (take n (map turned xs)) ≡ false → in_order s (take n xs) && every (within 1 max_price) (take n xs) ≡ false
  turned_out h =
      by (every (within 1 max_price) (take n xs))
      (λ e. rw (e, ← order_turned s (take n xs) e, ← take-map n xs, h))
      (λ e. rw (e, and-false))

  module _ (l : n ≤ length xs) where
    -- one turn of the count of steps
    pub turned_turn : (i : ℕ) → i + 1 < n → steps s (drop i (take n (map turned xs))) ≡ cond (ahead_of s (turned (get_or xs i 0)) (turned (get_or xs (i + 1) 0))) 1 0 + steps s (drop (i + 1) (take n (map turned xs)))
    turned_turn i h =
        let m = length-map xs turned in
        rw (← place_turned xs i (omega arith), ← place_turned xs (i + 1) (omega arith)) (steps-turn (map turned xs) n (omega arith) i s h)

    -- and its end
    pub turned_end : (i : ℕ) → n ≤ i + 1 → steps s (drop i (take n (map turned xs))) ≡ 0
    turned_end i h = let m = length-map xs turned in steps_end (map turned xs) n (omega arith) i s h

    -- they are in order where each but the last takes a step
    pub turned_order : 0 < n → eqb (steps s (take n (map turned xs))) (n - 1) ≡ in_order s (take n (map turned xs))
    turned_order h = let m = length-map xs turned in order_by_steps s (map turned xs) n (omega arith) h

    -- where they are in order, the prices are in order and limits if the first and the last are in the limits
    pub turned_in : 0 < n → in_order s (take n (map turned xs)) ≡ true → in_order s (take n xs) && every (within 1 max_price) (take n xs) ≡ within 1 max_price (get_or xs 0 0) && within 1 max_price (get_or xs (n - 1) 0)
    turned_in h k =
        let m = length-map xs turned in
        let e = ends_row s low high (map turned xs) n (omega arith) h k in
        let f : every (within 1 max_price) (take n xs) ≡ within 1 max_price (get_or xs 0 0) && within 1 max_price (get_or xs (n - 1) 0) =
        rw (take-map n xs, every-turned (take n xs), place_turned xs 0 (omega arith), place_turned xs (n - 1) (omega arith), turned-within, turned-within) at e in
        by (every (within 1 max_price) (take n xs))
        (λ g. rw (g, ← order_turned s (take n xs) g, ← take-map n xs, k) (sym g ∙ f))
        (λ g. rw (g, and-false) (sym g ∙ f))
