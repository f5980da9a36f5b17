-- Laws of what is printed of a day: texts that may be left out, the positions one by one, and how long texts are at most.
use Prim.Native.Nat.{ℕ, zero, suc, ◌+◌, ◌*◌, ◌≤◌, ◌<◌}
use mathlib.Core.Bool.{Bool, true, false, cond}
use mathlib.Core.Path.{◌≡◌, refl}
use mathlib.Core.List.{List, [], ◌∷◌, ◌++◌}
use native.Mathlib.Omega.{arith}
use native.Mathlib.Numerals.{add-one}
use borrow.Author.Tests.{eq-eqb, ne_eqb}
use lib.Dec.{eqb, ltb}
use lib.IntN.{ℤ, pos, nat_abs}
use lib.ListN.{length, length-append}
use lib.Signed.{lt_z}
use Rattle.told.specs.declared.Whole.{Whole}
use Rattle.told.specs.declared.Told.{Told}
use Rattle.holding.specs.declared.Position.{Position}
use Rattle.decimals.specs.Decimals.{decimal, Puts}
use Rattle.decimals.proofs.Digits.{decimal-short, signed-short}
use Rattle.decimals.proofs.Puts.{then, kept, front_room, rest_room}
use Rattle.types.specs.Bytes.{bytes}
use Rattle.day_printing.specs.Booked.{value_text, amount_text, line_text, carried_text, values_text, place_text, refusal_text, refused_text, is_all_zero, position_text, held_text, positions_text, total_text}

-- how pieces are put one behind the other, and the room for each
pub ruleset pieces = (then, front_room, rest_room)

-- no byte put
pub none-put : (at : ℕ) (o : List ℕ) → at ≤ length o → Puts [] at o o at
none-put at o h = record { stored = refl; behind = omega arith; fits = h }

-- ── a text that may be left out ──

module _ (is : Bool) (w : Whole) where
  pub is_carried : is ≡ true → carried_text is w ≡ value_text w.negative w.size
  unfolding carried_text
  is_carried e = rw e

  pub not_carried : is ≡ false → carried_text is w ≡ []
  unfolding carried_text
  not_carried e = rw e

module _ (t : Told) (line : ℕ) where
  pub is_refused : (t.number ≡ 0 → ⊥) → refused_text t line ≡ refusal_text t line
  unfolding refused_text
  is_refused e = rw (ne_eqb t.number 0 e)

  pub not_refused : t.number ≡ 0 → refused_text t line ≡ []
  unfolding refused_text
  not_refused e = rw (eq-eqb t.number 0 e)

module _ (symbol : ℕ) (p : Position) where
  pub is_held : is_all_zero p ≡ false → held_text symbol p ≡ position_text symbol p
  unfolding held_text
  is_held e = rw e

  pub not-held : is_all_zero p ≡ true → held_text symbol p ≡ []
  unfolding held_text
  not-held e = rw e

-- ── lengths ──

value-short : (negative : Bool) (n : ℕ) → length (value_text negative n) ≤ 22
unfolding value_text
value-short negative n = omega (arith, signed-short negative n)

pub line-short : (word : List ℕ) (negative : Bool) (n : ℕ) → length (line_text word negative n) ≤ length word + 23
unfolding line_text
line-short word negative n =
    omega (arith, length-append word (value_text negative n ++ (10 ∷ [])), length-append (value_text negative n) (10 ∷ []), value-short negative n)

pub total-short : (word : List ℕ) (z : ℤ) → length (total_text word z) ≤ length word + 23
total-short word z = line-short word (lt_z z (pos 0)) (nat_abs z)

carried-short : (is : Bool) (w : Whole) → length (carried_text is w) ≤ 22
unfolding carried_text
carried-short true w = value-short w.negative w.size
carried-short false w = omega arith

values-short : (t : Told) → length (values_text t) ≤ 88
unfolding values_text
values-short t =
    let a = carried_text (ltb 0 t.count) t.first in
    let b = carried_text (ltb 1 t.count) t.second in
    let c = carried_text (ltb 2 t.count) t.third in
    let d = carried_text (ltb 3 t.count) t.fourth in
    omega (
      arith,
      length-append a (b ++ (c ++ d)),
      length-append b (c ++ d),
      length-append c d,
      carried-short (ltb 0 t.count) t.first,
      carried-short (ltb 1 t.count) t.second,
      carried-short (ltb 2 t.count) t.third,
      carried-short (ltb 3 t.count) t.fourth,
    )

place_short : (number line : ℕ) → length (place_text number line) ≤ 59
unfolding place_text
place_short number line =
    omega (
      arith,
      length-append (value_text false number) ((bytes " at line") ++ value_text false line),
      value-short false number,
      value-short false line,
    )

pub refused_short : (t : Told) (line : ℕ) → length (refused_text t line) ≤ 160
unfolding refused_text refusal_text
refused_short t line = go (eqb t.number 0)
  where
    go : (is : Bool) → length (cond is [] (place_text t.number line ++ (values_text t ++ (10 ∷ [])))) ≤ 160
    go true = omega arith
    go false =
        omega (
          arith,
          length-append (place_text t.number line) (values_text t ++ (10 ∷ [])),
          length-append (values_text t) (10 ∷ []),
          place_short t.number line,
          values-short t,
        )

position-short : (symbol : ℕ) (p : Position) → length (position_text symbol p) ≤ 90
unfolding position_text
position-short symbol p =
    let q = amount_text p.quantity.value in
    let a = value_text false p.average in
    let r = amount_text p.realized.value in
    omega (
      arith,
      length-append (decimal symbol) (q ++ (a ++ (r ++ (10 ∷ [])))),
      length-append q (a ++ (r ++ (10 ∷ []))),
      length-append a (r ++ (10 ∷ [])),
      length-append r (10 ∷ []),
      decimal-short symbol,
      value-short (lt_z p.quantity.value (pos 0)) (nat_abs p.quantity.value),
      value-short false p.average,
      value-short (lt_z p.realized.value (pos 0)) (nat_abs p.realized.value),
    )

held-short : (symbol : ℕ) (p : Position) → length (held_text symbol p) ≤ 90
unfolding held_text
held-short symbol p = go (is_all_zero p)
  where
    go : (is : Bool) → length (cond is [] (position_text symbol p)) ≤ 90
    go true = omega arith
    go false = position-short symbol p

pub positions_short : (position : ℕ → Position) (n : ℕ) → length (positions_text position n) ≤ 90 * n
unfolding positions_text
positions_short position zero = omega arith
positions_short position (suc n) =
    omega (arith, length-append (positions_text position n) (held_text n (position n)), positions_short position n, held-short n (position n))

-- the room behind a line and behind the refusal
pub line-room :
    (word : List ℕ) (negative : Bool) (n : ℕ) {o p : List ℕ} {at u : ℕ} (more : ℕ) → Puts (line_text word negative n) at o p u → at + length word + 23 + more ≤ length o → u + more ≤ length p
line-room word negative n {o} {p} {at} {u} more a h =
    omega (arith, a.behind, kept (line_text word negative n) o p at u a, line-short word negative n)

pub refused_room : (t : Told) (line : ℕ) {o p : List ℕ} {at u : ℕ} (more : ℕ) → Puts (refused_text t line) at o p u → at + 160 + more ≤ length o → u + more ≤ length p
refused_room t line {o} {p} {at} {u} more a h =
    omega (arith, a.behind, kept (refused_text t line) o p at u a, refused_short t line)

-- ── position by position ──

module _ (position : ℕ → Position) (at : ℕ) (o : List ℕ) where
  pub no_position : at ≤ length o → Puts (positions_text position 0) at o o at
  unfolding positions_text
  no_position = none-put at o

  module _ (i u : ℕ) (now : List ℕ) (w : Puts (positions_text position i) at o now u) where
    pub position_room : i < 32 → at + 2880 ≤ length o → (p : Position) → u + length (held_text i p) ≤ length now
    position_room h r p =
        omega (arith, w.behind, kept (positions_text position i) o now at u w, positions_short position i, held-short i p)

    pub position-put :
        (p : Position) → p ≡ position i → (v : ℕ) (after : List ℕ) → Puts (held_text i p) u now after v →
        Puts (positions_text position (i + 1)) at o after v
    unfolding positions_text
    position-put p e v after x = rw (add-one i) (then _ _ _ _ _ _ _ _ w (rw e at x))

-- the room behind lines, which are short
pub ruleset lengths = (line-short, line-room, total-short, refused_short, refused_room)
