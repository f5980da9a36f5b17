-- Laws of the loop over the whole lines from the end of a text, and of bytes moved to the front.
use Prim.Native.Nat.{ℕ, suc, ◌+◌, ◌-◌, ◌≤◌, ◌<◌}
use mathlib.Core.Bool.{true, false}
use mathlib.Core.Path.{◌≡◌, sym, ap, ◌∙◌}
use mathlib.Core.List.{List, [], ◌∷◌, ◌++◌}
use native.Mathlib.Omega.{arith}
use borrow.Author.Tests.{eq-eqb, ne_eqb}
use lib.Dec.{eqb}
use lib.ListN.{length, take, drop, get_or, length-drop}
use lib.Seq.{take-suc, take-take, take-add, take_at, drop_at, length-take-le}
use Rattle.std.specs.List.{copy_within}
use Rattle.std.proofs.Common.{min}
use Rattle.std.proofs.Math.Seq.{paste}
use Rattle.std.proofs.lemmas.List.{take_min}
use Rattle.types.proofs.Booleans.{by}
use Rattle.wire.specs.Wire.{line_feed}
use Rattle.chunks.specs.Chunks.{whole_end, too_long}

whole-ended : (xs : List ℕ) (x : ℕ) → eqb x line_feed ≡ true → whole_end (xs ++ (x ∷ [])) ≡ suc (length xs)
whole-ended [] x e = rw e
whole-ended (c ∷ cs) x e = by (eqb c line_feed) (λ f. rw (f, whole-ended cs x e)) (λ f. rw (f, whole-ended cs x e))

whole_on : (xs : List ℕ) (x : ℕ) → eqb x line_feed ≡ false → whole_end (xs ++ (x ∷ [])) ≡ whole_end xs
whole_on [] x e = rw e
whole_on (c ∷ cs) x e = rw (whole_on cs x e)

-- the last of n bytes
module _ (s : List ℕ) (n : ℕ) (some : 0 < n) (h : n ≤ length s) where
  last : take n s ≡ take (n - 1) s ++ (get_or s (n - 1) 0 ∷ [])
  last = let e : n ≡ suc (n - 1) = omega arith in ap (λ (k : ℕ). take k s) e ∙ take-suc s (n - 1) 0 (omega arith)

  pub ended_here : get_or s (n - 1) 0 ≡ line_feed → whole_end (take n s) ≡ n
  ended_here e =
      ap whole_end last ∙ whole-ended (take (n - 1) s) (get_or s (n - 1) 0) (eq-eqb _ _ e)
      ∙ (let l : suc (length (take (n - 1) s)) ≡ n = omega (arith, length-take-le (n - 1) s (omega arith)) in l)

  pub ended_before : (get_or s (n - 1) 0 ≡ line_feed → ⊥) → whole_end (take n s) ≡ whole_end (take (n - 1) s)
  ended_before e = ap whole_end last ∙ whole_on (take (n - 1) s) (get_or s (n - 1) 0) (ne_eqb _ _ e)

-- ── moved to the front ──

-- a part of a front
part : (b : List ℕ) (from n : ℕ) → from + n ≤ length b → drop from (take (from + n) b) ≡ take n (drop from b)
part b from n h = ap (drop from) (take-add from n b) ∙ drop_at (take from b) (take n (drop from b)) from (length-take-le from b (omega arith))

-- as many bytes as there are to move, or as are kept, after they were copied to the front
pub moved : (b : List ℕ) (from to n : ℕ) → from ≤ to → to ≤ length b → n ≡ min (to - from) too_long
    → take n (copy_within b from (from + n) 0) ≡ take too_long (drop from (take to b))
moved b from to n h l e =
    let k : from + n - from ≡ n = omega arith in
    let m : to ≡ from + (to - from) = omega arith in
    let p : drop from (take to b) ≡ take (to - from) (drop from b) = ap (λ (i : ℕ). drop from (take i b)) m ∙ part b from (to - from) (omega arith) in
    let u : min too_long (length (take (to - from) (drop from b))) ≡ n = rw (length-take-le (to - from) (drop from b) (omega (arith, length-drop from b))) (omega arith) in
    ap (λ (i : ℕ). take n (paste b 0 (drop from b) i)) k
    ∙ take_at (take n (drop from b)) _ n (length-take-le n (drop from b) (omega (arith, length-drop from b)))
    ∙ sym (take-take n (to - from) (drop from b) (omega arith))
    ∙ ap (λ (i : ℕ). take i (take (to - from) (drop from b))) (sym u)
    ∙ take_min too_long (take (to - from) (drop from b))
    ∙ ap (take too_long) (sym p)
