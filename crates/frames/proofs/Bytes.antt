-- A delta's line by its bytes (specs/Inner/Bytes.antt): what they are in a delta's own line, and that a line whose bytes are so is one.
use Prim.Native.Nat.{ℕ, zero, suc, ◌%◌, ◌<◌}
use mathlib.Core.Bool.{true, and-eq-true_iff}
use mathlib.Core.Path.{◌≡◌, refl, sym, ap, ◌∙◌}
use mathlib.Core.List.{List, [], ◌∷◌, ◌++◌}
use native.Mathlib.Omega.{arith}
use borrow.Author.Tests.{leb-true, eqb-true, eq-eqb}
use lib.Dec.{eqb, leb}
use lib.ListN.{length, get_or, take, drop}
use lib.Seq.{take-suc, take_all}
use Rattle.types.specs.Named.{side_number, side_named}
use Rattle.types.specs.declared.Side.{Side}
use Rattle.types.specs.declared.Side.TheVariants.{Bid, Ask}
use Rattle.deltas.specs.declared.BookDelta.{BookDelta}
use Rattle.deltas.specs.declared.DeltaAction.{DeltaAction}
use Rattle.deltas.specs.declared.DeltaAction.TheVariants.{Set, Remove}
use Rattle.deltas.specs.Delta.{action_number, action_named}
use Rattle.wire.specs.Wire.{digits_of, be, byte_sum, check_byte, line, field}
use Rattle.wire.specs.Inner.Spelling.{spell}
use Rattle.wire.proofs.Bytes.{AllBytes, bytes, fields_are_bytes, checked, check_sum}
use Rattle.wire.proofs.Back.{spell-digits, spell-bytes, spell-at, field-bytes, field-joined, check_only}
use Rattle.frames.specs.Frames.{delta, bytes_of, encode}
use Rattle.frames.specs.Decode.{delta_in}
use Rattle.frames.specs.Inner.Bytes.{delta_of, is_delta}

-- ── the bytes in a delta's own line ──

-- all of a delta's bytes, the check byte too
abbrev all_of : BookDelta → List ℕ
all_of d = bytes_of (delta d) ++ check_byte (bytes_of (delta d)) ∷ []

all-bytes : (d : BookDelta) → AllBytes (all_of d)
all-bytes d =
    checked (bytes_of (delta d))
    (fields_are_bytes (bytes 1 1 ∷ bytes 1 (side_number d.side) ∷ bytes 1 (action_number d.action) ∷ bytes 4 d.price ∷ bytes 4 d.quantity ∷ bytes 8 d.sequence ∷ []) [] tt)

module _ (d : BookDelta) where
  spelt_in : spell 20 (encode (delta d)) ≡ all_of d
  unfolding encode line
  spelt_in = spell-digits (all_of d) (10 ∷ []) (all-bytes d)

  pub own_digits : take 40 (encode (delta d)) ≡ digits_of (spell 20 (encode (delta d)))
  unfolding encode line
  own_digits = sym (ap digits_of spelt_in)

  pub line_feed_lem : get_or (encode (delta d)) 40 0 ≡ 10
  unfolding encode line
  line_feed_lem = refl

side_small : (s : Side) → leb (side_number s % 256) 1 ≡ true
side_small Bid = refl
side_small Ask = refl

action_small : (a : DeltaAction) → leb (action_number a % 256) 1 ≡ true
action_small Set = refl
action_small Remove = refl

pub delta-bytes : (d : BookDelta) → is_delta (spell 20 (encode (delta d))) ≡ true
delta-bytes d =
    ap is_delta (spelt_in d) ∙ rw (side_small d.side, action_small d.action) (eq-eqb (byte_sum (all_of d) % 256) 0 (check_sum (bytes_of (delta d))))

-- ── a line whose bytes are so ──

side_number_lem : (x : ℕ) → leb x 1 ≡ true → side_number (side_named x) % 256 ≡ x
side_number_lem zero e = refl
side_number_lem (suc zero) e = refl
side_number_lem (suc (suc x)) e = let h = leb-true (suc (suc x)) 1 e in absurd (omega arith)

action_number_lem : (x : ℕ) → leb x 1 ≡ true → action_number (action_named x) % 256 ≡ x
action_number_lem zero e = refl
action_number_lem (suc zero) e = refl
action_number_lem (suc (suc x)) e = let h = leb-true (suc (suc x)) 1 e in absurd (omega arith)

module _ (l : List ℕ) (n : length l ≡ 41) where
  pub in_bytes : delta_of (spell 20 l) ≡ delta_in l
  in_bytes =
      λ i. record {
        side = side_named (spell-at 1 20 l (omega arith) i);
        price = field-joined 3 4 20 l (omega arith) (omega arith) i;
        quantity = field-joined 7 4 20 l (omega arith) (omega arith) i;
        action = action_named (spell-at 2 20 l (omega arith) i);
        sequence = field-joined 11 8 20 l (omega arith) (omega arith) i;
      }

  -- the numbers of a delta behind its kind, side and action
  numbers : be 4 (field 3 4 l) (be 4 (field 7 4 l) (be 8 (field 11 8 l) [])) ≡
      take 4 (drop 3 (spell 20 l)) ++ (take 4 (drop 7 (spell 20 l)) ++ (take 8 (drop 11 (spell 20 l)) ++ []))
  numbers =
      field-bytes 3 4 20 l _ (omega arith) (omega arith)
      ∙ ap (λ (xs : List ℕ). take 4 (drop 3 (spell 20 l)) ++ xs)
      (field-bytes 7 4 20 l _ (omega arith) (omega arith)
      ∙ ap (λ (xs : List ℕ). take 4 (drop 7 (spell 20 l)) ++ xs) (field-bytes 11 8 20 l [] (omega arith) (omega arith)))

  module _ (t : is_delta (spell 20 l) ≡ true) where
    kind : (get_or (spell 20 l) 0 0 ≡ 1) × (leb (field 1 1 l) 1 ≡ true) × (leb (field 2 1 l) 1 ≡ true) × (byte_sum (spell 20 l) % 256 ≡ 0)
    kind =
        let a = (and-eq-true_iff (eqb (get_or (spell 20 l) 0 0) 1) _).0 t in
        let b = (and-eq-true_iff (leb (get_or (spell 20 l) 1 0) 1) _).0 a.1 in
        let c = (and-eq-true_iff (leb (get_or (spell 20 l) 2 0) 1) _).0 b.1 in
        (eqb-true _ _ a.0, ap (λ (x : ℕ). leb x 1) (sym (spell-at 1 20 l (omega arith))) ∙ b.0, ap (λ (x : ℕ). leb x 1) (sym (spell-at 2 20 l (omega arith))) ∙ c.0, eqb-true _ _ c.1)

    -- the delta's bytes are those that the line spells, but for the last
    front : bytes_of (delta (delta_in l)) ++ get_or (spell 20 l) 19 0 ∷ [] ≡ spell 20 l
    front =
        let s = side_number_lem (field 1 1 l) kind.1 ∙ sym (spell-at 1 20 l (omega arith)) in
        let a = action_number_lem (field 2 1 l) kind.2 ∙ sym (spell-at 2 20 l (omega arith)) in
        λ i. (sym kind.0 i ∷ s i ∷ a i ∷ numbers i) ++ get_or (spell 20 l) 19 0 ∷ []

    last_small : get_or (spell 20 l) 19 0 < 256
    last_small = (spell-bytes 20 l).1.1.1.1.1.1.1.1.1.1.1.1.1.1.1.1.1.1.1.0

    check : get_or (spell 20 l) 19 0 ≡ check_byte (bytes_of (delta (delta_in l)))
    check = check_only (bytes_of (delta (delta_in l))) (get_or (spell 20 l) 19 0) last_small (ap (λ (bs : List ℕ). byte_sum bs % 256) front ∙ kind.3)

    pub its_line : take 40 l ≡ digits_of (spell 20 l) → get_or l 40 0 ≡ 10 → l ≡ encode (delta (delta_in l))
    unfolding encode line
    its_line own feed =
        let f = bytes_of (delta (delta_in l)) in
        let all : spell 20 l ≡ f ++ check_byte f ∷ [] = sym front ∙ ap (λ (b : ℕ). f ++ b ∷ []) check in
        sym (take_all 41 l (omega arith))
        ∙ take-suc l 40 0 (omega arith)
        ∙ ap (λ (xs : List ℕ). xs ++ get_or l 40 0 ∷ []) (own ∙ ap digits_of all)
        ∙ ap (λ (x : ℕ). digits_of (f ++ check_byte f ∷ []) ++ x ∷ []) feed
