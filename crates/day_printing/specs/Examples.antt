-- What is printed of the worked day, of a day that is refused, and of an opening cash that is refused.
use Rattle.std.specs.Prelude.{ℕ, ◌≡◌, refl, [], ◌∷◌, ◌++◌, ℤ, pos, neg_ℤ, replicate}
use Rattle.amount.specs.Whole.{amount}
use Rattle.types.specs.Bytes.{bytes}
use Rattle.told.specs.Numbers.{told}
use Rattle.position.specs.declared.PositionLedger.{PositionLedger}
use Rattle.decimals.specs.Decimals.{last_digits, signed_decimal}
use Rattle.day_printing.specs.Booked.{value_text, line_text, carried_text, values_text, place_text, refusal_text, refused_text, position_text, held_text, positions_text, ledger_text, day_text}

-- less than zero
abbrev minus : ℕ → ℤ
minus n = neg_ℤ (pos n)

-- symbol 0 is 2 lots short at 90, with 27 realized
abbrev short : PositionLedger
short = record {
  cash = amount (pos 10205);
  commission = amount (pos 3);
  quantities = minus 2 ∷ replicate 31 (pos 0);
  averages = 90 ∷ replicate 31 0;
  realized = pos 27 ∷ replicate 31 (pos 0);
}

-- all were taken
worked :
    day_text 4 (told 0 []) 0 short ≡
    bytes "taken 4\ncash 10205\ncommission 3\n0 -2 90 27\n"
unfolding day_text line_text refused_text ledger_text positions_text held_text position_text value_text signed_decimal last_digits
worked = refl

-- symbol 1 is flat with a loss of 5 realized, and symbol 31 holds 7 lots at 9
abbrev several : PositionLedger
several = record {
  cash = amount (minus 100);
  commission = amount (pos 0);
  quantities = replicate 31 (pos 0) ++ (pos 7 ∷ []);
  averages = replicate 31 0 ++ (9 ∷ []);
  realized = pos 0 ∷ minus 5 ∷ replicate 30 (pos 0);
}

-- the second was refused
ended :
    day_text 1 (told 8 (pos 101 ∷ minus 100 ∷ [])) 3 several ≡
    bytes "taken 1\nrefused 8 at line 3 101 -100\ncash -100\ncommission 0\n1 0 0 -5\n31 7 9 0\n"
unfolding day_text line_text refused_text refusal_text place_text values_text carried_text ledger_text positions_text held_text position_text value_text signed_decimal last_digits
ended = refl

-- the opening cash was refused
unopened : refused_text (told 2 []) 1 ≡ bytes "refused 2 at line 1\n"
unfolding refused_text refusal_text place_text values_text carried_text value_text signed_decimal last_digits
unopened = refl
