-- `asked::depth::depth_at` meets its contract: the quantity stands at the place where the search finds the price.
use mathlib.Core.Path.{sym, ◌∙◌}
use native.Mathlib.Omega.{arith}
use Rattle.types.proofs.Booleans.{passed}
use Rattle.asked.proofs.Finds.{lent, found_in, found_depth, absent_depth}
use Rattle.asked.proofs.depth.depth_at.Goals as goal

pub bounds-lent-i : goal.bounds-lent-i
bounds-lent-i c =
    omega (arith, c.requires.known.few, found_in _ c.args.lent.prices.now c.args.lent.count _ _ (sym c.find-place.ensures ∙ c.in-At.is))

pub offset_bounds-lent-i : goal.offset_bounds-lent-i
offset_bounds-lent-i c = omega (arith, c.requires.known.few, found_in _ c.args.lent.prices.now c.args.lent.count _ _ (sym c.find-place.ensures ∙ c.in-At.is))

pub returns-in-At : goal.returns-in-At
returns-in-At c = let k = c in
    let f = c in
    let l = c in
    let w = l.requires in
    rw (passed l.is_price.ensures l.if-not-is_price.false-raw, found_depth _ _ _ _ (lent w.known) _ _ (sym f.find-place.ensures ∙ k.in-At.is))

pub returns-in-Before : goal.returns-in-Before
returns-in-Before c = let f = c in
    let l = c in
    let w = l.requires in
    rw (passed l.is_price.ensures l.if-not-is_price.false-raw, absent_depth _ _ _ _ (lent w.known) _ _ w.order (sym f.find-place.ensures ∙ c.in-Before.is))
