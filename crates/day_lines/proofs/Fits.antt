-- A fill that a line says has a symbol, a quantity and a price of 32 bits.
use Prim.Native.Nat.{ℕ, ◌≤◌}
use mathlib.Core.List.{List, [], ◌∷◌}
use Rattle.types.proofs.Booleans.{by}
use Rattle.holding.specs.declared.Fill.{Fill}
use Rattle.numerals.specs.Numerals.{numeral_up_to, signed_of}
use Rattle.numerals.proofs.Digits.{read_fits}
use Rattle.numerals.specs.Inner.Sizes.{size_of}
use Rattle.std.specs.Prelude.{Option, Some, None}
use Rattle.amount.specs.declared.Amount.{Amount}
use Rattle.types.specs.declared.Side.{Side}
use Rattle.day_lines.specs.Words.{alike}
use Rattle.day_lines.specs.Lines.{cash, side_word, cash_said, fill_said, said_by}
use Rattle.day_lines.specs.declared.Said.{Said}
use Rattle.day_lines.specs.declared.Said.TheVariants as L

pub record Small (f : Fill) : Type 0 where
  pub symbol : f.symbol ≤ 4294967295
  pub quantity : f.quantity ≤ 4294967295
  pub price : f.price ≤ 4294967295

-- of the fill, if one is said
abbrev pub SmallIn : Said → Type 0
SmallIn L.Nothing = Unit {0}
SmallIn (L.Cash c) = Unit {0}
SmallIn (L.Fill f) = Small f
SmallIn L.Other = Unit {0}

fill_small : (s : Option ℕ) (d : Option Side) (q p : Option ℕ) (c : Option Amount) → size_of s ≤ 4294967295 → size_of q ≤ 4294967295 → size_of p ≤ 4294967295 → SmallIn (fill_said s d q p c)
fill_small (Some s) (Some d) (Some q) (Some p) (Some c) x y z = record { symbol = x; quantity = y; price = z }
fill_small (Some s) (Some d) (Some q) (Some p) None x y z = tt
fill_small (Some s) (Some d) (Some q) None c x y z = tt
fill_small (Some s) (Some d) None p c x y z = tt
fill_small (Some s) None q p c x y z = tt
fill_small None d q p c x y z = tt

cash_small : (c : Option Amount) → SmallIn (cash_said c)
cash_small (Some c) = tt
cash_small None = tt

pub said_small : (ws : List (List ℕ)) → SmallIn (said_by ws)
unfolding said_by
said_small [] = tt
said_small (a ∷ []) = tt
said_small (a ∷ b ∷ []) = by (alike a cash) (λ t. rw t (cash_small (signed_of b))) (λ t. rw t tt)
said_small (a ∷ b ∷ c ∷ []) = tt
said_small (a ∷ b ∷ c ∷ d ∷ []) = tt
said_small (a ∷ b ∷ c ∷ d ∷ e ∷ []) =
    fill_small (numeral_up_to 4294967295 a) (side_word b) (numeral_up_to 4294967295 c) (numeral_up_to 4294967295 d) (signed_of e) (read_fits 4294967295 a) (read_fits 4294967295 c) (read_fits 4294967295 d)
said_small (a ∷ b ∷ c ∷ d ∷ e ∷ f ∷ more) = tt
