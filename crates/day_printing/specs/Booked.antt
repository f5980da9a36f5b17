-- What is printed of a booked day: how many fills were taken, the refusal if one was refused, cash, commission, and the positions.
use Rattle.std.specs.Prelude.{ℕ, zero, suc, Bool, false, ◌&&◌, cond, List, [], ◌++◌, eqb, ltb, ℤ, pos, nat_abs}
use Rattle.std.specs.Int.Signed.{lt_z}
use Rattle.types.specs.Bytes.{bytes}
use Rattle.told.specs.declared.Whole.{Whole}
use Rattle.told.specs.declared.Told.{Told}
use Rattle.holding.specs.declared.Position.{Position}
use Rattle.position.specs.Ledger.{position_at}
use Rattle.position.specs.declared.PositionLedger.{PositionLedger}
use Rattle.decimals.specs.Decimals.{decimal, signed_decimal}

-- ── numbers ──

-- a space and a number, a minus sign before a negative one
unfoldable pub value_text : Bool → ℕ → List ℕ
value_text negative n = bytes " " ++ signed_decimal negative n

-- the same of an amount
abbrev pub amount_text : ℤ → List ℕ
amount_text z = value_text (lt_z z (pos 0)) (nat_abs z)

-- a word and a number as a line
unfoldable pub line_text : List ℕ → Bool → ℕ → List ℕ
line_text word negative n = word ++ (value_text negative n ++ bytes "\n")

-- ── the refusal ──

-- a value, if it is carried
unfoldable pub carried_text : Bool → Whole → List ℕ
carried_text is w = cond is (value_text w.negative w.size) []

-- the values that a refusal carries
unfoldable pub values_text : Told → List ℕ
values_text t =
    carried_text (ltb 0 t.count) t.first
    ++ (carried_text (ltb 1 t.count) t.second ++ (carried_text (ltb 2 t.count) t.third ++ carried_text (ltb 3 t.count) t.fourth))

-- `refused NUMBER at line L`
unfoldable pub place_text : ℕ → ℕ → List ℕ
place_text number line = bytes "refused" ++ (value_text false number ++ (bytes " at line" ++ value_text false line))

-- that with the values as a line
unfoldable pub refusal_text : Told → ℕ → List ℕ
refusal_text t line = place_text t.number line ++ (values_text t ++ bytes "\n")

-- the refusal, if there is one: 0 is none
unfoldable pub refused_text : Told → ℕ → List ℕ
refused_text t line = cond (eqb t.number 0) [] (refusal_text t line)

-- ── the positions ──

-- quantity, average and realized profit are all 0
abbrev pub is_all_zero : Position → Bool
is_all_zero p = eqb (nat_abs p.quantity.value) 0 && (eqb p.average 0 && eqb (nat_abs p.realized.value) 0)

-- `SYMBOL QUANTITY AVERAGE REALIZED`
unfoldable pub position_text : ℕ → Position → List ℕ
position_text symbol p =
    decimal symbol
    ++ (amount_text p.quantity.value ++ (value_text false p.average ++ (amount_text p.realized.value ++ bytes "\n")))

-- that, unless all of it is 0
unfoldable pub held_text : ℕ → Position → List ℕ
held_text symbol p = cond (is_all_zero p) [] (position_text symbol p)

-- the positions of the symbols below n
unfoldable pub positions_text : (ℕ → Position) → ℕ → List ℕ
positions_text position zero = []
positions_text position (suc n) = positions_text position n ++ held_text n (position n)

-- ── the day ──

-- a word and an amount as a line
abbrev pub total_text : List ℕ → ℤ → List ℕ
total_text word z = line_text word (lt_z z (pos 0)) (nat_abs z)

-- cash, commission paid, and the positions of the 32 symbols
unfoldable pub ledger_text : PositionLedger → List ℕ
ledger_text l = total_text (bytes "cash") l.cash.value ++ (total_text (bytes "commission") l.commission.value ++ positions_text (position_at l) 32)

-- the fills taken, the refusal that ended them with the line of its fill, and the ledger
unfoldable pub day_text : ℕ → Told → ℕ → PositionLedger → List ℕ
day_text taken t line l = line_text (bytes "taken") false taken ++ (refused_text t line ++ ledger_text l)
