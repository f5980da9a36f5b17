-- Fills kept as numbers: one more behind those that are kept, and how many there are.
use Prim.Native.Nat.{ℕ, ◌+◌, ◌*◌, ◌/◌, ◌≤◌}
use mathlib.Core.Path.{◌≡◌, ap, ◌∙◌}
use mathlib.Core.List.{List, [], ◌∷◌, ◌++◌}
use native.Mathlib.Omega.{arith}
use lib.IntN.{ℤ}
use lib.ListN.{length, take, length-append}
use lib.Seq.{sets, sets-eq, length-take-le, take_at}
use Rattle.holding.specs.declared.Fill.{Fill}
use Rattle.day.specs.Numbers.{fills_by, fill_numbers}
use Rattle.day.proofs.Numbers.{fills_append, fills_count}
use Rattle.day.proofs.Back.{is_again}
use Rattle.day_lines.proofs.Fits.{Small}

-- one more is kept
pub kept_more : (ns : List ℤ) (n : ℕ) (f : Fill) → 5 * (n + 1) ≤ length ns → Small f →
    fills_by (take (5 * (n + 1)) (sets ns (5 * n) (fill_numbers f))) ≡ fills_by (take (5 * n) ns) ++ (f ∷ [])
kept_more ns n f h s =
    let a = take (5 * n) ns in
    let l : length a ≡ 5 * n = length-take-le (5 * n) ns (omega arith) in
    let m : length (a ++ fill_numbers f) ≡ 5 * (n + 1) = simp length-append (omega arith) in
    let e : take (5 * (n + 1)) (sets ns (5 * n) (fill_numbers f)) ≡ a ++ fill_numbers f = rw (sets-eq (fill_numbers f) ns (5 * n) (omega arith)) (take_at (a ++ fill_numbers f) _ (5 * (n + 1)) m) in
    ap fills_by e ∙ fills_append n a (fill_numbers f) l ∙ ap (λ (fs : List Fill). fills_by a ++ fs) (is_again f s.symbol s.quantity s.price)

-- how many are kept
pub kept-count : (ns : List ℤ) (n : ℕ) → 5 * n ≤ length ns → length (fills_by (take (5 * n) ns)) ≡ n
kept-count ns n h =
    let l : length (take (5 * n) ns) ≡ 5 * n = length-take-le (5 * n) ns h in
    let q : length (take (5 * n) ns) / 5 ≡ n = omega arith in
    fills_count (take (5 * n) ns) ∙ q
