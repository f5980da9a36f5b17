-- Laws of a side's rows: the levels written from them, and the levels read into them.
use Prim.Native.Nat.{ℕ, zero, suc, ◌+◌, ◌*◌, ◌-◌, ◌%◌, ◌^◌, ◌<◌, ◌≤◌}
use mathlib.Core.Path.{◌≡◌, refl, sym, ap, ap₂, ◌∙◌}
use mathlib.Core.List.{List, [], ◌∷◌, ◌++◌}
use native.Mathlib.Omega.{arith}
use native.Mathlib.Numerals.{add-one}
use lib.ListN.{length, get_or, take, drop, replicate, length-append}
use lib.Seq.{take-suc, take_at, length-take-le, drop-drop}
use Rattle.types.specs.Limits.{max_levels}
use Rattle.types.specs.declared.PriceLevel.{PriceLevel}
use Rattle.levels.specs.Table.{level, prices_of, quantities_of, paired, levels, table, rows}
use Rattle.wire.specs.Wire.{line_feed, digits_of, be, line, field, column, Part}
use Rattle.wire.proofs.Places.{join, line_made, length-column}
use Rattle.frames.specs.Frames.{Snapshot, snapshot, level_bytes, encode}
use Rattle.frames.specs.Decode.{levels_in}
use Rattle.frames.proofs.Whole.{length-levels, snapshot_length}
use Rattle.frames.proofs.Reading.{levels_append}

-- ── from rows ──

paired_snoc : (ps qs : List ℕ) (p q : ℕ) → length ps ≡ length qs → paired (ps ++ p ∷ []) (qs ++ q ∷ []) ≡ paired ps qs ++ level p q ∷ []
paired_snoc [] [] p q e = refl
paired_snoc [] (y ∷ qs) p q e = absurd (omega arith)
paired_snoc (x ∷ ps) [] p q e = absurd (omega arith)
paired_snoc (x ∷ ps) (y ∷ qs) p q e = ap (λ (ls : List PriceLevel). level x y ∷ ls) (paired_snoc ps qs p q (omega arith))

paired-length : (ps qs : List ℕ) → length ps ≡ length qs → length (paired ps qs) ≡ length ps
paired-length [] qs e = refl
paired-length (x ∷ ps) [] e = absurd (omega arith)
paired-length (x ∷ ps) (y ∷ qs) e = ap suc (paired-length ps qs (omega arith))

module _ (ps qs : List ℕ) (i : ℕ) where
  pub rows-length : i ≤ length ps → i ≤ length qs → length (levels (rows ps qs i)) ≡ i
  rows-length h k =
      let p = length-take-le i ps h in
      let q = length-take-le i qs k in
      paired-length (take i ps) (take i qs) (p ∙ sym q) ∙ p

  pub rows_more : i < length ps → i < length qs → levels (rows ps qs (i + 1)) ≡ levels (rows ps qs i) ++ level (get_or ps i 0) (get_or qs i 0) ∷ []
  rows_more h k =
      let p = length-take-le i ps (omega arith) in
      let q = length-take-le i qs (omega arith) in
      rw (add-one, take-suc ps i 0, take-suc qs i 0) (paired_snoc (take i ps) (take i qs) (get_or ps i 0) (get_or qs i 0) (p ∙ sym q))

bytes_append : (xs ys : List PriceLevel) → level_bytes (xs ++ ys) [] ≡ level_bytes xs [] ++ level_bytes ys []
bytes_append [] ys = refl
bytes_append (x ∷ xs) ys = ap (λ (l : List ℕ). be 4 x.price (be 4 x.quantity l)) (bytes_append xs ys)

-- one level more
pub level_step : (ps qs : List ℕ) (i at : ℕ) (l₀ l₁ l₂ : List ℕ) (s t : ℕ) → i < length ps → i < length qs → 2 * (at + 8 * i) ≤ length l₀
    → Part (level_bytes (levels (rows ps qs i)) []) at l₀ l₁ s → Part (be 4 (get_or ps i 0) (be 4 (get_or qs i 0) [])) (at + 8 * i) l₁ l₂ t
    → Part (level_bytes (levels (rows ps qs (i + 1))) []) at l₀ l₂ (s + t)
level_step ps qs i at l₀ l₁ l₂ s t p q h u v =
    let b = level_bytes (levels (rows ps qs i)) [] in
    let n = rows-length ps qs i (omega arith) (omega arith) in
    let k : at + 8 * i ≡ at + length b = omega (arith, length-levels (levels (rows ps qs i)) []) in
    rw (rows_more ps qs i p q, bytes_append) (join b (be 4 (get_or ps i 0) (be 4 (get_or qs i 0) [])) at l₀ l₁ l₂ s t u (rw (← k) v) (rw (← k) h))

-- the sum of a side's bytes is small
pub side_sum : (ls : List PriceLevel) (n at : ℕ) (l₀ l₁ : List ℕ) (s : ℕ) → length ls ≡ n → n ≤ max_levels → Part (level_bytes ls []) at l₀ l₁ s → s ≤ 262144
side_sum ls n at l₀ l₁ s e h p = omega (arith, length-levels ls [], p.small)

-- so the three sums of a snapshot fit
pub sums_fit : (s t u : ℕ) → s ≤ 2816 → t ≤ 262144 → u ≤ 262144 → s + t + u < 2 ^ 64
sums_fit s t u a b c = omega arith

-- a snapshot's parts, its check byte and the line feed are its line
pub snapshot_written : (z : Snapshot) (b a : ℕ) (l₀ l₁ l₂ l₃ l₄ : List ℕ) (s t u : ℕ) → length z.bids ≡ b → length z.asks ≡ a
    → Part (be 1 2 (be 8 z.sequence (be 1 b (be 1 a [])))) 0 l₀ l₁ s
    → Part (level_bytes z.bids []) 11 l₁ l₂ t
    → Part (level_bytes z.asks []) (11 + 8 * b) l₂ l₃ u
    → l₄ ≡ take (2 * (11 + 8 * b + 8 * a)) l₃ ++ (digits_of ((256 - (s + t + u) % 256) % 256 ∷ []) ++ line_feed ∷ drop (2 * (11 + 8 * b + 8 * a) + 3) l₃)
    → 25 + 16 * (b + a) ≤ length l₀
    → l₄ ≡ encode (snapshot z) ++ drop (length (encode (snapshot z))) l₀
unfolding encode
snapshot_written z b a l₀ l₁ l₂ l₃ l₄ s t u eb ea p q r e h =
    let head = be 1 2 (be 8 z.sequence (be 1 b (be 1 a []))) in
    let bids = level_bytes z.bids [] in
    let asks = level_bytes z.asks [] in
    let nb : length bids ≡ 8 * b = omega (arith, length-levels z.bids []) in
    let na : length asks ≡ 8 * a = omega (arith, length-levels z.asks []) in
    let front : length (head ++ bids) ≡ 11 + 8 * b = simp length-append (omega arith) in
    let k : 11 + 8 * b ≡ 0 + length (head ++ bids) = omega arith in
    let m : length ((head ++ bids) ++ asks) ≡ 11 + 8 * b + 8 * a = omega (arith, length-append (head ++ bids) asks) in
    let d : 2 * (11 + 8 * b + 8 * a) + 3 ≡ length (encode (snapshot z)) = omega (arith, snapshot_length z) in
    let w : Part ((head ++ bids) ++ asks) 0 l₀ l₃ (s + t + u) =
    join (head ++ bids) asks 0 l₀ l₂ l₃ (s + t) u (join head bids 0 l₀ l₁ l₂ s t p q (omega arith)) (rw (← k) r) (omega arith) in
    line_made ((head ++ bids) ++ asks) l₀ l₃ l₄ (11 + 8 * b + 8 * a) (s + t + u) m w e
    ∙ ap₂ (λ (x : List ℕ) (n : ℕ). line x ++ drop n l₀)
    (ap (λ (x : List ℕ). be 1 2 (be 8 z.sequence (be 1 b (be 1 a x)))) (levels_append z.bids [] asks)
    ∙ ap₂ (λ (x y : ℕ). be 1 2 (be 8 z.sequence (be 1 x (be 1 y (level_bytes z.bids asks))))) (sym eb) (sym ea))
    d

-- the front of a list that another was written to
pub front : (l s d : List ℕ) (n : ℕ) → l ≡ s ++ d → length s ≡ n → take n l ≡ s
front l s d n e k = ap (take n) e ∙ take_at s d n k

-- ── into rows ──

pub levels_in_length : (n : ℕ) (l : List ℕ) → length (levels_in n l) ≡ n
levels_in_length zero l = refl
levels_in_length (suc n) l = ap suc (levels_in_length n (drop 16 l))

prices_in : (n : ℕ) (l : List ℕ) → prices_of (levels_in n l) ≡ column n l
prices_in zero l = refl
prices_in (suc n) l = ap (λ (xs : List ℕ). field 0 4 l ∷ xs) (prices_in n (drop 16 l))

quantities_in : (n : ℕ) (l : List ℕ) → quantities_of (levels_in n l) ≡ column n (drop 8 l)
quantities_in zero l = refl
quantities_in (suc n) l =
    ap (λ (xs : List ℕ). field 4 4 l ∷ xs) (quantities_in n (drop 16 l) ∙ ap (column n) (drop-drop 8 16 l ∙ sym (drop-drop 16 8 l)))

drop-zeros : (n m : ℕ) → n ≤ m → ◌≡◌ {A = List ℕ} (drop n (replicate m 0)) (replicate (m - n) 0)
drop-zeros zero m h = let e : m ≡ m - 0 = omega arith in ap (λ (k : ℕ). replicate {A = ℕ} k 0) e
drop-zeros (suc n) zero h = absurd (omega arith)
drop-zeros (suc n) (suc m) h = let e : m - n ≡ suc m - suc n = omega arith in drop-zeros n m (omega arith) ∙ ap (λ (k : ℕ). replicate {A = ℕ} k 0) e

-- a row of zeros whose front was read
pub row_read : (n : ℕ) (l xs : List ℕ) → n ≤ max_levels → xs ≡ column n l → xs ++ replicate (max_levels - length xs) 0 ≡ column n l ++ drop n (replicate max_levels 0)
row_read n l xs h e =
    let k : length xs ≡ n = ap length e ∙ length-column n l in
    rw (drop-zeros n max_levels h, k) (ap (λ (x : List ℕ). x ++ replicate (max_levels - n) 0) e)

-- two columns read into rows of zeros are the table of the levels
pub side_read : (n at : ℕ) (l ps qs : List ℕ) → n ≤ max_levels
    → ps ≡ column n (drop (2 * at) l) ++ drop n (replicate max_levels 0) → qs ≡ column n (drop (2 * (at + 4)) l) ++ drop n (replicate max_levels 0)
    → rows ps qs n ≡ table (levels_in n (drop (2 * at) l))
side_read n at l ps qs h p q =
    let x = drop (2 * at) l in
    let a : 2 * at + 8 ≡ 2 * (at + 4) = omega arith in
    let y : drop 8 x ≡ drop (2 * (at + 4)) l = drop-drop 8 (2 * at) l ∙ ap (λ (k : ℕ). drop k l) a in
    λ i. record {
      prices = (p ∙ sym (row_read n x (prices_of (levels_in n x)) h (prices_in n x))) i;
      quantities = (q ∙ sym (row_read n (drop (2 * (at + 4)) l) (quantities_of (levels_in n x)) h (quantities_in n x ∙ ap (column n) y))) i;
      count = sym (levels_in_length n x) i;
    }
