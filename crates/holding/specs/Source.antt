-- The original's rule, its averages as exact quotients: what our position is compared with. Proved in proofs/Sources.antt.
use Rattle.std.specs.Prelude.{ℕ, ◌+◌, ◌*◌, ◌-◌, ◌<◌, ◌≡◌, Bool, true, false, not, cond, ◌&&◌, leb, ltb, eqb, nat_abs}
use Rattle.holding.specs.Holding.{is_average, is_position, grows, average_after, remainder_after, position_after}
use Rattle.holding.specs.declared.Position.{Position}
use Rattle.holding.specs.declared.Fill.{Fill}

-- the lots held after a fill, without their sign
abbrev pub new_lots : Bool → ℕ → ℕ → ℕ
new_lots grown old n = cond grown (old + n) ((old - n) + (n - old))

-- a turnover that leaves no more lots than there were
abbrev pub is_small_turnover : Bool → ℕ → ℕ → Bool
is_small_turnover grown old n = not grown && (ltb old n && leb n (old + old))

-- numerator and denominator: 0 when flat; an increase averages; the old average if |new| ≤ |old|; else the fill's price
unfoldable pub source_average : Bool → ℕ → ℕ → ℕ → ℕ → ℕ × ℕ
source_average grown old average n price =
    cond (eqb (new_lots grown old n) 0) (0, 1)
    (cond (grown && ltb 0 n) (average * old + price * n, old + n)
    (cond (leb (new_lots grown old n) old) (average, 1) (price, 1)))

-- our average is the original's rounded down: what is left over is less than its denominator
abbrev pub RoundsDown : Bool → ℕ → ℕ → ℕ → ℕ → Type 0
RoundsDown grown old average n price =
    let s = source_average grown old average n price in
    let left = remainder_after grown old average n price in
    (average_after grown old average n price * s.1 + left ≡ s.0) × (left < s.1)

-- and so it is after every fill but a small turnover
abbrev pub AveragesRoundDown : Type 0
AveragesRoundDown =
    (grown : Bool) (old average n price : ℕ) →
    is_average old average ≡ true → is_small_turnover grown old n ≡ false → RoundsDown grown old average n price

-- q is the original's position after a fill to p that is no small turnover: lots and profit as ours, and its average comes out whole
pub record SourceAfter (p : Position) (f : Fill) (q : Position) : Type 0 where
  pub plain : is_small_turnover (grows f.side p.quantity.value) (nat_abs p.quantity.value) f.quantity ≡ false
  pub quantity : q.quantity ≡ (position_after p f).quantity
  pub average :
      let s = source_average (grows f.side p.quantity.value) (nat_abs p.quantity.value) p.average f.quantity f.price in
      q.average * s.1 ≡ s.0
  pub realized : q.realized ≡ (position_after p f).realized

-- such a position is ours
abbrev pub SourceIsOurs : Type 0
SourceIsOurs = (p : Position) (f : Fill) (q : Position) → is_position p ≡ true → SourceAfter p f q → q ≡ position_after p f
