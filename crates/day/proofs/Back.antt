-- Fills as numbers and back: a fill's own numbers are it again where they fit their bits, and where they do not, both are refused alike.
use Rattle.std.proofs.Common.{◌≡◌, ℕ, ◌*◌, ◌%◌, ◌≤◌, Bool, true, false, eqb, List, [], ◌∷◌, ◌++◌, map, length, ℤ, pos, sym, refl, ap, ◌∙◌, true≢false, arith, le-ltb, eq-eqb, le-leb}
use Rattle.types.specs.Named.{side_named, side_number}
use Rattle.types.specs.declared.Side.{Side}
use Rattle.types.specs.declared.Side.TheVariants.{Bid, Ask}
use Rattle.types.proofs.Booleans.{by}
use Rattle.types.proofs.Runs.{run-same}
use Rattle.holding.specs.Holding.{is_fill}
use Rattle.holding.specs.declared.Fill.{Fill}
use Rattle.holding.proofs.Holdings.{fill_in}
use Rattle.position.specs.declared.PositionLedger.{PositionLedger}
use Rattle.position.specs.Ledger.{Change, is_ledger, kept, booked}
use Rattle.day.specs.Day.{ledger_after, reply_after, day_booked}
use Rattle.day.specs.Numbers.{is_up_to, max_word, are_fill, no_fill, fill_by, first_fill, is_first, first_fills, fills_by, fill_numbers, fills_numbers, day_booked_by}
use Rattle.day.specs.Meaning.{ByNumbers}
use Rattle.day.proofs.Numbers.{fills_next}

-- ── one fill ──

-- the fill of a fill's own numbers
abbrev again : Fill → Fill
again f = first_fill (fill_numbers f)

side_again : (d : Side) → side_named (side_number d) ≡ d
side_again Bid = refl
side_again Ask = refl

side_up_to : (d : Side) → is_up_to 1 (pos (side_number d)) ≡ true
side_up_to Bid = refl
side_up_to Ask = refl

up_to_word : (n : ℕ) → n ≤ max_word → is_up_to max_word (pos n) ≡ true
up_to_word n h = rw (le-ltb n 0 (omega arith), le-leb n max_word h)

module _ (f : Fill) where
  -- the test of its numbers
  abbrev fits : Bool
  fits = are_fill (pos f.symbol) (pos (side_number f.side)) (pos f.quantity) (pos f.price)

  fit : f.symbol ≤ max_word → f.quantity ≤ max_word → f.price ≤ max_word → fits ≡ true
  fit s q p = rw (up_to_word f.symbol s, side_up_to f.side, up_to_word f.quantity q, up_to_word f.price p)

  passed : fits ≡ true → again f ≡ f
  unfolding fill_by
  passed t = rw (t, side_again f.side)

  -- a fill whose numbers fit their bits is it again
  pub is_again : f.symbol ≤ max_word → f.quantity ≤ max_word → f.price ≤ max_word → fills_by (fill_numbers f) ≡ f ∷ []
  unfolding first_fills
  is_again s q p = ap (λ (g : Fill). g ∷ []) (passed (fit s q p))

  -- one within its limits has such numbers
  outside : fits ≡ false → is_fill f ≡ false
  outside t =
      by (is_fill f)
      (λ h. let w = fill_in f h in absurd (true≢false (sym (fit (omega (arith, w.symbol_in)) (omega (arith, w.quantity_in)) (omega (arith, w.price_in))) ∙ t)))
      (λ h. h)

  none : fits ≡ false → again f ≡ no_fill
  unfolding fill_by
  none t = rw t

pub none_outside : is_fill no_fill ≡ false
unfolding is_fill
none_outside = refl

-- fills outside their limits are refused alike
alike : (l : PositionLedger) (f g : Fill) → is_fill f ≡ false → is_fill g ≡ false → booked l f ≡ booked l g
unfolding booked
alike l f g x y = rw (x, y)

-- so its own numbers are booked as the fill is
pub booked-again : (l : PositionLedger) (f : Fill) → booked l (again f) ≡ booked l f
booked-again l f =
    by (fits f)
    (λ t. ap (booked l) (passed f t))
    (λ t. ap (booked l) (none f t) ∙ alike l no_fill f none_outside (outside f t))

-- numbers that are no fill are refused with 2 by a ledger
pub none_booked : (l : PositionLedger) (ns : List ℤ) → is_ledger l ≡ true → is_first ns ≡ false → booked l (first_fill ns) ≡ kept l 2 []
unfolding booked fill_by
none_booked l ns h t = rw (t, h, none_outside)

-- ── fills ──

fills_again : (fs : List Fill) → fills_by (fills_numbers fs) ≡ map again fs
unfolding first_fills fills_numbers
fills_again [] = refl
fills_again (f ∷ fs) = fills_next (fill_numbers f ++ fills_numbers fs) (omega arith) ∙ ap (λ (gs : List Fill). again f ∷ gs) (fills_again fs)

-- five each
five_each : (fs : List Fill) → length (fills_numbers fs) ≡ 5 * length fs
unfolding fills_numbers
five_each [] = refl
five_each (f ∷ fs) = let e = five_each fs in omega arith

pub by_numbers : ByNumbers
unfolding day_booked_by day_booked
by_numbers l fs =
    let n = five_each fs in
    let five : eqb (length (fills_numbers fs) % 5) 0 ≡ true = eq-eqb (length (fills_numbers fs) % 5) 0 (omega arith) in
    by (is_ledger l)
    (λ h.
    rw (h, five)
    (rw (fills_again fs)
    (run-same ledger_after reply_after again (λ m f. (ap (λ (c : Change). c.ledger) (booked-again m f), ap (λ (c : Change). c.reply) (booked-again m f))) l fs)))
    (λ h. rw h)
