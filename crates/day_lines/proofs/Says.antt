-- Laws of what words say, by how many there are.
use Prim.Native.Nat.{ℕ}
use mathlib.Core.Path.{◌≡◌, refl}
use mathlib.Core.List.{List, [], ◌∷◌}
use native.Mathlib.Omega.{arith}
use lib.ListN.{length, get_or}
use Rattle.day_lines.specs.Lines.{cash_line, fill_line, said_by}
use Rattle.day_lines.specs.declared.Said.TheVariants as L

pub none_say : (ws : List (List ℕ)) → length ws ≡ 0 → said_by ws ≡ L.Nothing
unfolding said_by
none_say [] h = refl
none_say (a ∷ ws) h = absurd (omega arith)

pub two_say : (ws : List (List ℕ)) → length ws ≡ 2 → said_by ws ≡ cash_line (get_or ws 0 []) (get_or ws 1 [])
unfolding said_by
two_say [] h = absurd (omega arith)
two_say (a ∷ []) h = absurd (omega arith)
two_say (a ∷ b ∷ []) h = refl
two_say (a ∷ b ∷ c ∷ ws) h = absurd (omega arith)

pub five_say :
    (ws : List (List ℕ)) → length ws ≡ 5 → said_by ws ≡ fill_line (get_or ws 0 []) (get_or ws 1 []) (get_or ws 2 []) (get_or ws 3 []) (get_or ws 4 [])
unfolding said_by
five_say [] h = absurd (omega arith)
five_say (a ∷ []) h = absurd (omega arith)
five_say (a ∷ b ∷ []) h = absurd (omega arith)
five_say (a ∷ b ∷ c ∷ []) h = absurd (omega arith)
five_say (a ∷ b ∷ c ∷ d ∷ []) h = absurd (omega arith)
five_say (a ∷ b ∷ c ∷ d ∷ e ∷ []) h = refl
five_say (a ∷ b ∷ c ∷ d ∷ e ∷ f ∷ ws) h = absurd (omega arith)

-- any other count
pub others_say : (ws : List (List ℕ)) → (length ws ≡ 0 → ⊥) → (length ws ≡ 2 → ⊥) → (length ws ≡ 5 → ⊥) → said_by ws ≡ L.Other
unfolding said_by
others_say [] x y z = absurd (x refl)
others_say (a ∷ []) x y z = refl
others_say (a ∷ b ∷ []) x y z = absurd (y refl)
others_say (a ∷ b ∷ c ∷ []) x y z = refl
others_say (a ∷ b ∷ c ∷ d ∷ []) x y z = refl
others_say (a ∷ b ∷ c ∷ d ∷ e ∷ []) x y z = absurd (z refl)
others_say (a ∷ b ∷ c ∷ d ∷ e ∷ f ∷ ws) x y z = refl
