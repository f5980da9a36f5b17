-- `asked::depth::has_price` meets its contract: the search finds the price exactly where a level has it.
use mathlib.Core.Path.{sym, ◌∙◌}
use Rattle.types.proofs.Booleans.{passed}
use Rattle.asked.proofs.Finds.{lent, found_has, absent_has}
use Rattle.asked.proofs.depth.has_price.Goals as goal

pub returns-in-At : goal.returns-in-At
returns-in-At c = let f = c in
    let l = c in
    let w = l.requires in
    rw (passed l.is_price.ensures l.if-not-is_price.false-raw, found_has _ _ _ _ (lent w.known) _ _ (sym f.find-place.ensures ∙ c.in-At.is))

pub returns-in-Before : goal.returns-in-Before
returns-in-Before c = let f = c in
    let l = c in
    let w = l.requires in
    rw (passed l.is_price.ensures l.if-not-is_price.false-raw, absent_has _ _ _ _ (lent w.known) _ _ w.order (sym f.find-place.ensures ∙ c.in-Before.is))
