-- What an edit does to a row that is a list and zeros behind it: the list is edited, and the zeros follow.
use Prim.Native.Nat.{ℕ, suc, ◌+◌, ◌-◌, ◌≤◌, ◌<◌}
use native.Mathlib.Omega.{arith}
use native.Mathlib.Numerals.{add-one}
use mathlib.Core.Path.{◌≡◌, refl}
use mathlib.Core.List.{List, ◌∷◌, ◌++◌, append_assoc}
use lib.ListN.{length, take, drop, replicate, length-append, length-drop, length-set}
use lib.Seq.{take-append-le, drop-append-le, take_at, drop-append-add, drop-append_seam, set-append_left, length-take-le}
use Rattle.types.specs.Limits.{max_levels}
use Rattle.levels.specs.Table.{padded}
use Rattle.levels.specs.declared.Place.{Place}
use Rattle.levels.specs.declared.Place.TheVariants.{At, Before}
use Rattle.levels.proofs.Places.{InList}
use Rattle.changes.specs.Inner.Edits.{inserted, deleted, row_after, put_edit, out_edit}
use Rattle.changes.proofs.Places.{put_at, out_at, put-length}

-- the zeros of a row whose list has k places less than the row
padded_by : (xs : List ℕ) (k : ℕ) → length xs + k ≡ max_levels → padded xs ≡ xs ++ replicate k 0
padded_by xs k e = let z : max_levels - length xs ≡ k = omega arith in rw z

module _ (xs : List ℕ) (i : ℕ) where
  inserted-padded : (v : ℕ) → i ≤ length xs → length xs < max_levels → inserted (padded xs) i (length xs) v ≡ padded (take i xs ++ (v ∷ drop i xs))
  inserted-padded v h room =
      let k = max_levels - (length xs + 1) in
      let z : List ℕ = replicate k 0 in
      let e₁ : length xs + suc k ≡ max_levels = omega arith in
      let e₂ : length (take i xs ++ (v ∷ drop i xs)) + k ≡ max_levels = simp (length-append, length-drop, length-take-le) (omega arith) in
      rw (
        padded_by xs (suc k) e₁,
        padded_by (take i xs ++ (v ∷ drop i xs)) k e₂,
        take-append-le i xs (0 ∷ z) h,
        drop-append-le i xs (0 ∷ z) h,
        take_at (drop i xs) (0 ∷ z) (length xs - i) (length-drop i xs),
        drop-append-add xs (0 ∷ z) 1,
        append_assoc (take i xs) (v ∷ drop i xs) z,
      )

  deleted-padded : i < length xs → length xs ≤ max_levels → deleted (padded xs) i (length xs) ≡ padded (take i xs ++ drop (suc i) xs)
  deleted-padded h room =
      let k = max_levels - length xs in
      let z : List ℕ = replicate k 0 in
      let le : i ≤ length xs = omega arith in
      let e : length (take i xs ++ drop (suc i) xs) + suc k ≡ max_levels = simp (length-append, length-drop, length-take-le) (omega arith) in
      rw (
        add-one,
        padded_by (take i xs ++ drop (suc i) xs) (suc k) e,
        take-append-le i xs z le,
        drop-append-le (suc i) xs z h,
        take_at (drop (suc i) xs) z (length xs - suc i) (length-drop (suc i) xs),
        drop-append_seam xs z,
        append_assoc (take i xs) (drop (suc i) xs) (0 ∷ z),
      )

-- a row of n used places after Set's edit, and after Remove's
module _ (xs : List ℕ) (n v : ℕ) (e : length xs ≡ n) where
  pub set_row : (w : Place) → InList w n → length (put_at w v xs) ≤ max_levels → row_after (put_edit w) n v (padded xs) ≡ padded (put_at w v xs)
  set_row (At i) h room = let fit : i < length xs = omega arith in rw (set-append_left, length-set)
  set_row (Before i) h room =
      let fit : i ≤ length xs = omega arith in
      let few : length xs < max_levels = omega (arith, put-length xs i v fit) in
      rw (← e) (inserted-padded xs i v fit few)

  pub remove_row : (w : Place) → InList w n → n ≤ max_levels → row_after (out_edit w) n v (padded xs) ≡ padded (out_at w xs)
  remove_row (At i) h few = rw (← e) (deleted-padded xs i (omega arith) (omega arith))
  remove_row (Before i) h few = refl
