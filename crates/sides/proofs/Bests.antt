-- The best levels of a side and of both sides: what they are of a list, of rows and within the limits, and what is answered of them.
use Rattle.std.specs.Prelude.{Option, Some, None}
use Prim.Native.Nat.{ℕ, ◌+◌, ◌-◌, ◌*◌, ◌≤◌, ◌<◌}
use native.Mathlib.Nat.{mul-le-mul}
use native.Mathlib.Omega.{arith}
use mathlib.Core.Path.{◌≡◌, refl, sym, ap, ◌∙◌}
use mathlib.Core.Bool.{true, false}
use mathlib.Core.List.{List, [], ◌∷◌}
use lib.Dec.{ltb}
use lib.ListN.{get_or}
use borrow.Author.Tests.{ltb-true, ltb-false}
use Rattle.types.specs.Replies.{Reply, done, refused}
use Rattle.types.specs.declared.PriceLevel.{PriceLevel}
use Rattle.types.specs.declared.Quote.{Quote}
use Rattle.levels.specs.Table.{level, levels, rows}
use Rattle.levels.specs.Formed.{every, in_limits}
use Rattle.walks.proofs.Turns.{Lent}
use Rattle.levels.proofs.Tables.{levels_cons}
use Rattle.walks.proofs.Walks.{every-parts, within_limits}
use Rattle.sides.specs.Best.{best_of, is_apart}
use Rattle.sides.specs.Inner.Limits.{BestFits}
use Rattle.sides.specs.Questions.{best_level, of_both, quote_of}

-- the best level of rows is their first place
pub rows-first : (p q : List ℕ) (n : ℕ) → Lent p q n → 0 < n → best_of (levels (rows p q n)) ≡ Some (level (get_or p 0 0) (get_or q 0 0))
unfolding best_of
rows-first p q n w h = rw (levels_cons (rows p q n) (record { ps = w.0; qs = w.1 }) w.2 0 h)

pub rows_nowhere : (p q : List ℕ) (n : ℕ) → n ≤ 0 → best_of (levels (rows p q n)) ≡ None
unfolding best_of
rows_nowhere p q n h = let e : n ≡ 0 = omega arith in rw e

-- a best level of levels within the limits is within them
pub best-fits : (ls : List PriceLevel) → every in_limits ls ≡ true → BestFits (best_of ls)
unfolding best_of
best-fits [] h = omega arith
best-fits (l ∷ ls) h = let w = within_limits l (every-parts in_limits l ls h).0 in (w.cheap, w.small)

-- two sides

pub apart_is : (bid ask : Option PriceLevel) (b a : PriceLevel) → bid ≡ Some b → ask ≡ Some a → is_apart bid ask ≡ ltb b.price a.price
unfolding is_apart
apart_is bid ask b a e f = rw (e, f)

pub apart_no_bid : (bid ask : Option PriceLevel) → bid ≡ None → is_apart bid ask ≡ true
unfolding is_apart
apart_no_bid bid ask e = rw e

pub apart_no_ask : (bid ask : Option PriceLevel) → ask ≡ None → is_apart bid ask ≡ true
unfolding is_apart
apart_no_ask (Some b) ask f = rw f
apart_no_ask None ask f = refl

pub apart_below : (bid ask : Option PriceLevel) (b a : PriceLevel) → bid ≡ Some b → ask ≡ Some a → is_apart bid ask ≡ true → b.price < a.price
apart_below bid ask b a e f h = ltb-true _ _ (sym (apart_is bid ask b a e f) ∙ h)

pub touching : (bid ask : Option PriceLevel) (b a : PriceLevel) → bid ≡ Some b → ask ≡ Some a → is_apart bid ask ≡ false → a.price ≤ b.price
touching bid ask b a e f h = ltb-false _ _ (sym (apart_is bid ask b a e f) ∙ h)

-- what is answered

pub level_some : (best : Option PriceLevel) (l : PriceLevel) → best ≡ Some l → best_level best ≡ done l
unfolding best_level
level_some best l e = rw e

pub level-none : (best : Option PriceLevel) → best ≡ None → best_level best ≡ refused 10 []
unfolding best_level
level-none best e = rw e

-- with no level on a side there is no answer of both
pub no_bid : {A : Type 0} (f : PriceLevel → PriceLevel → Reply A) (bid ask : Option PriceLevel) → bid ≡ None → of_both f bid ask ≡ refused 10 []
unfolding of_both
no_bid f bid ask e = rw e

pub no_ask : {A : Type 0} (f : PriceLevel → PriceLevel → Reply A) (bid ask : Option PriceLevel) → ask ≡ None → of_both f bid ask ≡ refused 10 []
unfolding of_both
no_ask f (Some b) ask e = rw e
no_ask f None ask e = refl

-- with both it is what is made of the two
pub both : {A : Type 0} (f : PriceLevel → PriceLevel → Reply A) (bid ask : Option PriceLevel) (b a : PriceLevel) → bid ≡ Some b → ask ≡ Some a → of_both f bid ask ≡ f b a
unfolding of_both
both f bid ask b a e g = rw (e, g)

-- the quote of a reply
abbrev quote_in : Quote → Reply Quote → Quote
quote_in q (done r) = r
quote_in q (refused n vs) = q

-- what is made of two best levels, by the quote that they are
pub quoted : {A : Type 0} (f : PriceLevel → PriceLevel → Reply A) (bid ask : Option PriceLevel) (q : Quote) → done q ≡ of_both quote_of bid ask → of_both f bid ask ≡ f q.bid q.ask
unfolding of_both
quoted f (Some b) (Some a) q e = ap (λ (r : Quote). f r.bid r.ask) (ap (quote_in q) (sym e))
quoted f (Some b) None q e = let z : ◌≡◌ {A = ℕ} 0 1 = cc in absurd (omega arith)
quoted f None ask q e = let z : ◌≡◌ {A = ℕ} 0 1 = cc in absurd (omega arith)

-- how large it gets

pub share_small : (times high low : ℕ) → times ≤ 20000 → high < 4294967296 → times * (high - low) ≤ 85899345920000
share_small times high low h k = let d : high - low ≤ 4294967296 = omega arith in mul-le-mul h d

-- any price of the two times any quantity of the two
pub weighed_small : (bid ask : Option PriceLevel) (b a : PriceLevel) → bid ≡ Some b → ask ≡ Some a → BestFits bid × BestFits ask → (b.price + a.price) * (b.quantity + a.quantity) ≤ 400000000000000000
weighed_small bid ask b a e g h =
    let i : BestFits (Some b) = rw e at h.0 in
    let j : BestFits (Some a) = rw g at h.1 in
    let p : b.price + a.price ≤ 200000000 = omega arith in
    let q : b.quantity + a.quantity ≤ 2000000000 = omega arith in
    mul-le-mul p q
