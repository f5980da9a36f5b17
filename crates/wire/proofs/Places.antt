-- Laws of writing digits in place: parts join, and end as a line.
use Prim.Native.Nat.{ℕ, zero, suc, ◌+◌, ◌*◌, ◌-◌, ◌/◌, ◌%◌, ◌<◌, ◌≤◌}
use mathlib.Core.Path.{◌≡◌, refl, sym, ap, ap₂, ◌∙◌, subst}
use mathlib.Core.List.{List, [], ◌∷◌, ◌++◌, append_assoc}
use native.Mathlib.Omega.{arith}
use native.Mathlib.Numerals.{add-one}
use native.Mathlib.Nat.{add-zero}
use lib.ListN.{length, get_or, set, take, drop, length-append, take-append-drop}
use lib.Seq.{take-add, drop-cons, length-take-le, take_at, drop_at, drop-drop, set_at, append_snoc}
use Rattle.wire.specs.Wire.{line_feed, digits_of, be, check_byte, line, field, column, Part}
use Rattle.wire.proofs.Bytes.{length-be, be_append, length_digits, digits_append, sum_append}

-- two places of a list after a part of it, written in turn
two : (p : List ℕ) (a b : ℕ) (t : List ℕ) (x y : ℕ) → set (set (p ++ a ∷ b ∷ t) (length p) x) (suc (length p)) y ≡ p ++ x ∷ y ∷ t
two [] a b t x y = refl
two (q ∷ p) a b t x y = ap (λ (l : List ℕ). q ∷ l) (two p a b t x y)

two_at : (d t : List ℕ) (o x y : ℕ) → o + 2 ≤ length d → set (set (take (o + 2) d ++ t) o x) (o + 1) y ≡ take o d ++ x ∷ y ∷ t
two_at d t o x y h =
    let a = get_or d o 0 in
    let b = get_or d (suc o) 0 in
    let e : drop o d ≡ a ∷ b ∷ drop (suc (suc o)) d = drop-cons d o 0 (omega arith) ∙ ap (λ (l : List ℕ). a ∷ l) (drop-cons d (suc o) 0 (omega arith)) in
    let u : take (o + 2) d ++ t ≡ take o d ++ a ∷ b ∷ t =
    ap (λ (l : List ℕ). l ++ t) (take-add o 2 d ∙ ap (λ (l : List ℕ). take o d ++ take 2 l) e) ∙ append_assoc (take o d) (a ∷ b ∷ []) t in
    let n : length (take o d) ≡ o = length-take-le o d (omega arith) in
    ap₂ (λ (l : List ℕ) (i : ℕ). set (set l o x) i y) u (add-one o)
    ∙ subst (λ (i : ℕ). set (set (take o d ++ a ∷ b ∷ t) i x) (suc i) y ≡ take o d ++ x ∷ y ∷ t) n (two (take o d) a b t x y)

-- a byte's two digits put before what is written
pub put_step : (d out t : List ℕ) (at j x y : ℕ) → 0 < j → 2 * (at + j) ≤ length d → out ≡ take (2 * (at + j)) d ++ t
    → set (set out (2 * (at + (j - 1))) x) (2 * (at + (j - 1)) + 1) y ≡ take (2 * (at + (j - 1))) d ++ x ∷ y ∷ t
put_step d out t at j x y p h e =
    let k : 2 * (at + j) ≡ 2 * (at + (j - 1)) + 2 = omega arith in
    ap (λ (l : List ℕ). set (set l (2 * (at + (j - 1))) x) (2 * (at + (j - 1)) + 1) y) (e ∙ ap (λ (n : ℕ). take n d ++ t) k)
    ∙ two_at d t (2 * (at + (j - 1))) x y (omega arith)

pub be_step : (j n : ℕ) (w : List ℕ) → 0 < j → be j n w ≡ be (j - 1) (n / 256) (n % 256 ∷ w)
be_step zero n w h = absurd (omega arith)
be_step (suc j) n w h = let k : j ≡ suc j - 1 = omega arith in ap (λ (i : ℕ). be i (n / 256) (n % 256 ∷ w)) k

pub no_part : (at : ℕ) (l : List ℕ) → Part [] at l l 0
no_part at l =
    let e : 2 * at ≡ 2 * (at + 0) = omega arith in
    record { written = sym (take-append-drop (2 * at) l) ∙ ap (λ (n : ℕ). take (2 * at) l ++ drop n l) e; summed = refl; small = omega arith }

-- a part written after a part is a part
pub join : (bs cs : List ℕ) (at : ℕ) (l₀ l₁ l₂ : List ℕ) (s t : ℕ)
    → Part bs at l₀ l₁ s → Part cs (at + length bs) l₁ l₂ t → 2 * (at + length bs) ≤ length l₀ → Part (bs ++ cs) at l₀ l₂ (s + t)
join bs cs at l₀ l₁ l₂ s t p q h =
    let m = 2 * (at + length bs) in
    let front = take (2 * at) l₀ ++ digits_of bs in
    let rest = drop (2 * (at + length (bs ++ cs))) l₀ in
    let len : length front ≡ m = simp (length-append, length_digits) (omega (arith, length-take-le (2 * at) l₀ (omega arith))) in
    let e : l₁ ≡ front ++ drop m l₀ = p.written ∙ sym (append_assoc (take (2 * at) l₀) (digits_of bs) (drop m l₀)) in
    let n : 2 * (at + length bs + length cs) ≡ m + 2 * length cs = omega arith in
    let n' : 2 * (at + length (bs ++ cs)) ≡ m + 2 * length cs = simp length-append (omega arith) in
    let u : take m l₁ ≡ front = ap (take m) e ∙ take_at front (drop m l₀) m len in
    let v : drop (2 * (at + length bs + length cs)) l₁ ≡ rest =
    ap (λ (i : ℕ). drop i l₁) n
    ∙ sym (drop-drop (2 * length cs) m l₁)
    ∙ ap (drop (2 * length cs)) (ap (drop m) e ∙ drop_at front (drop m l₀) m len)
    ∙ drop-drop (2 * length cs) m l₀
    ∙ ap (λ (i : ℕ). drop i l₀) (sym n') in
    record {
      written =
          q.written
          ∙ ap₂ (λ (x y : List ℕ). x ++ (digits_of cs ++ y)) u v
          ∙ append_assoc (take (2 * at) l₀) (digits_of bs) (digits_of cs ++ rest)
          ∙ ap (λ (x : List ℕ). take (2 * at) l₀ ++ x)
          (sym (append_assoc (digits_of bs) (digits_of cs) rest) ∙ ap (λ (x : List ℕ). x ++ rest) (sym (digits_append bs cs)));
      summed = ap₂ (λ (x y : ℕ). x + y) p.summed q.summed ∙ sym (sum_append bs cs);
      small = let x = p.small in let y = q.small in simp length-append (omega arith);
    }

-- so is a part written after a number's bytes
pub then : (k n : ℕ) (cs : List ℕ) (at : ℕ) (l₀ l₁ l₂ : List ℕ) (s t : ℕ)
    → Part (be k n []) at l₀ l₁ s → Part cs (at + k) l₁ l₂ t → 2 * (at + k) ≤ length l₀ → Part (be k n cs) at l₀ l₂ (s + t)
then k n cs at l₀ l₁ l₂ s t p q h =
    let m : length (be k n []) ≡ k = simp (length-be, add-zero) refl in
    rw be_append (join (be k n []) cs at l₀ l₁ l₂ s t p (rw m q) (rw m h))

-- a number's bytes have a small sum
pub small_sum : (k n at : ℕ) (l₀ l₁ : List ℕ) (s : ℕ) → Part (be k n []) at l₀ l₁ s → k ≤ 8 → s ≤ 2048
small_sum k n at l₀ l₁ s p h = let m = length-be k n [] in omega (arith, p.small)

-- a place written just after a part
pub set_after : (p : List ℕ) (at x : ℕ) (d : List ℕ) → length p ≡ at → at < length d → set (p ++ drop at d) at x ≡ p ++ x ∷ drop (at + 1) d
set_after p at x d e h =
    ap (λ (l : List ℕ). set (p ++ l) at x) (drop-cons d at 0 h) ∙ set_at p (get_or d at 0) (drop (suc at) d) x at e
    ∙ ap (λ (n : ℕ). p ++ x ∷ drop n d) (sym (add-one at))

-- the line feed after the check byte
pub ended : (l₀ l₁ : List ℕ) (at m : ℕ) → m < 256 → 2 * at + 3 ≤ length l₀ → l₁ ≡ take (2 * at) l₀ ++ (digits_of (m % 256 ∷ []) ++ drop (2 * (at + 1)) l₀)
    → set l₁ (2 * at + 2) line_feed ≡ take (2 * at) l₀ ++ (digits_of (m ∷ []) ++ line_feed ∷ drop (2 * at + 3) l₀)
ended l₀ l₁ at m b h e =
    let k : m % 256 ≡ m = omega arith in
    let n : 2 * (at + 1) ≡ 2 * at + 2 = omega arith in
    let n' : 2 * at + 2 + 1 ≡ 2 * at + 3 = omega arith in
    let front = take (2 * at) l₀ ++ digits_of (m ∷ []) in
    let len : length front ≡ 2 * at + 2 = simp length-append (ap (λ (i : ℕ). i + 2) (length-take-le (2 * at) l₀ (omega arith))) in
    ap (λ (l : List ℕ). set l (2 * at + 2) line_feed)
    (e ∙ ap₂ (λ (x i : ℕ). take (2 * at) l₀ ++ (digits_of (x ∷ []) ++ drop i l₀)) k n ∙ sym (append_assoc (take (2 * at) l₀) (digits_of (m ∷ [])) (drop (2 * at + 2) l₀)))
    ∙ set_after front (2 * at + 2) line_feed l₀ len (omega arith)
    ∙ ap (λ (i : ℕ). front ++ line_feed ∷ drop i l₀) n'
    ∙ append_assoc (take (2 * at) l₀) (digits_of (m ∷ [])) (line_feed ∷ drop (2 * at + 3) l₀)

-- a part from the front on, its check byte and the line feed are a line
pub line_made : (bs l₀ l₁ l₂ : List ℕ) (n s : ℕ) → length bs ≡ n → Part bs 0 l₀ l₁ s
    → l₂ ≡ take (2 * n) l₁ ++ (digits_of ((256 - s % 256) % 256 ∷ []) ++ line_feed ∷ drop (2 * n + 3) l₁) → l₂ ≡ line bs ++ drop (2 * n + 3) l₀
unfolding line check_byte
line_made bs l₀ l₁ l₂ n s e p q =
    let z : 2 * (0 + length bs) ≡ 2 * n = omega arith in
    let w : l₁ ≡ digits_of bs ++ drop (2 * n) l₀ = p.written ∙ ap (λ (i : ℕ). digits_of bs ++ drop i l₀) z in
    let k : length (digits_of bs) ≡ 2 * n = length_digits bs ∙ ap (λ (i : ℕ). 2 * i) e in
    let t : take (2 * n) l₁ ≡ digits_of bs = ap (take (2 * n)) w ∙ take_at (digits_of bs) (drop (2 * n) l₀) (2 * n) k in
    let d : drop (2 * n + 3) l₁ ≡ drop (2 * n + 3) l₀ =
    sym (drop-drop 3 (2 * n) l₁) ∙ ap (drop 3) (ap (drop (2 * n)) w ∙ drop_at (digits_of bs) (drop (2 * n) l₀) (2 * n) k) ∙ drop-drop 3 (2 * n) l₀ in
    q ∙ ap₂ (λ (x y : List ℕ). x ++ (digits_of ((256 - s % 256) % 256 ∷ []) ++ line_feed ∷ y)) t d
    ∙ ap (λ (m : ℕ). digits_of bs ++ (digits_of ((256 - m % 256) % 256 ∷ []) ++ line_feed ∷ drop (2 * n + 3) l₀)) p.summed
    ∙ sym (append_assoc (digits_of bs) (digits_of (check_byte bs ∷ [])) (line_feed ∷ drop (2 * n + 3) l₀))
    ∙ ap (λ (l : List ℕ). l ++ line_feed ∷ drop (2 * n + 3) l₀) (sym (digits_append bs (check_byte bs ∷ [])))
    ∙ sym (append_assoc (digits_of (bs ++ check_byte bs ∷ [])) (line_feed ∷ []) (drop (2 * n + 3) l₀))

-- ── columns ──

pub length-column : (n : ℕ) (l : List ℕ) → length (column n l) ≡ n
length-column zero l = refl
length-column (suc n) l = ap suc (length-column n (drop 16 l))

column_snoc : (n : ℕ) (l : List ℕ) → column (suc n) l ≡ column n l ++ field 0 4 (drop (16 * n) l) ∷ []
column_snoc zero l = refl
column_snoc (suc n) l =
    let a : 16 + 16 * n ≡ 16 * suc n = omega arith in
    ap (λ (x : List ℕ). field 0 4 l ∷ x) (column_snoc n (drop 16 l) ∙ ap (λ (x : List ℕ). column n (drop 16 l) ++ field 0 4 x ∷ []) (drop-drop (16 * n) 16 l ∙ ap (λ (m : ℕ). drop m l) a))

-- one number more
pub column_step : (i at x : ℕ) (l row₀ row : List ℕ) → i < length row₀ → row ≡ column i (drop (2 * at) l) ++ drop i row₀ → x ≡ field (at + 8 * i) 4 l
    → set row i x ≡ column (i + 1) (drop (2 * at) l) ++ drop (i + 1) row₀
column_step i at x l row₀ row h e ex =
    let a : 2 * (at + 8 * i) ≡ 2 * at + 16 * i = omega arith in
    let v = field 0 4 (drop (16 * i) (drop (2 * at) l)) in
    let ev : x ≡ v = ex ∙ ap (λ (m : ℕ). field 0 4 (drop m l)) a ∙ ap (field 0 4) (sym (drop-drop (16 * i) (2 * at) l)) in
    let c = column i (drop (2 * at) l) in
    ap₂ (λ (y : List ℕ) (z : ℕ). set y i z) e ev
    ∙ set_after c i v row₀ (length-column i (drop (2 * at) l)) h
    ∙ sym (append_snoc c v (drop (i + 1) row₀))
    ∙ ap (λ (y : List ℕ). y ++ drop (i + 1) row₀) (sym (ap (λ (m : ℕ). column m (drop (2 * at) l)) (add-one i) ∙ column_snoc i (drop (2 * at) l)))
