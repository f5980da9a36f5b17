-- Opening and closing a row: the places that move, and then the one store.
use Prim.Native.Nat.{ℕ, suc, ◌+◌, ◌-◌, ◌≤◌, ◌<◌}
use native.Mathlib.Omega.{arith}
use mathlib.Core.Path.{◌≡◌}
use mathlib.Core.List.{List, [], ◌∷◌, ◌++◌, append_assoc}
use lib.ListN.{length, take, drop, set, get_or, length-drop}
use lib.Seq.{take-suc, drop-cons, length-take-le, length_paste_head, set_at}
use Rattle.std.specs.List.{copy_within}
use Rattle.changes.specs.Inner.Edits.{inserted, deleted}

module _ (xs : List ℕ) (at n : ℕ) where
  -- the places from `at` to n moved one on
  pub opened : (v : ℕ) → at ≤ n → n < length xs → set (copy_within xs at n (at + 1)) at v ≡ inserted xs at n v
  opened v h l =
      let front = take at xs in
      let moved = take (n - at) (drop at xs) in
      let behind = drop (n + 1) xs in
      let x = get_or xs at 0 in
      let e₁ : at + 1 ≡ suc at = omega arith in
      let e₂ : at + 1 + (n - at) ≡ n + 1 = omega arith in
      cc (
        take-suc xs at 0 (omega arith),
        append_assoc front (x ∷ []) moved,
        append_assoc front (x ∷ moved) behind,
        set_at front x (moved ++ behind) v at (length-take-le at xs (omega arith)),
      )

  -- those behind `at` up to n moved one back
  pub closed : at < n → n ≤ length xs → set (copy_within xs (at + 1) n at) (n - 1) 0 ≡ deleted xs at n
  closed h l =
      let front = take at xs in
      let moved = take (n - (at + 1)) (drop (at + 1) xs) in
      let e₁ : at + (n - (at + 1)) ≡ n - 1 = omega arith in
      let e₂ : suc (n - 1) ≡ n = omega arith in
      let few : n - (at + 1) ≤ length (drop (at + 1) xs) = omega (arith, length-drop (at + 1) xs) in
      cc (
        drop-cons xs (n - 1) 0 (omega arith),
        length_paste_head xs at (drop (at + 1) xs) (n - (at + 1)) (omega arith) few,
        set_at (front ++ moved) (get_or xs (n - 1) 0) (drop n xs) 0 (n - 1) (rw (← e₁) (length_paste_head xs at (drop (at + 1) xs) (n - (at + 1)) (omega arith) few)),
        append_assoc front moved (0 ∷ drop n xs),
      )
