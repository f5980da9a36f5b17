-- `word` meets its contract: the words are what the chain gives, and past the last there is no byte.
use Rattle.std.proofs.Common.{◌==◌, not, length, refl, rules, tests}
use Rattle.std.proofs.lemmas.Iterator.Consumers.{nth_from_yields_List, YieldsList-from_filter, YieldsList-at}
use Rattle.std.proofs.lemmas.Iterator.Splits.{YieldsList-from_slice_split}
use Rattle.day_lines.specs.Words.{is_blank}
use Rattle.day_lines.proofs.Cuts.{words-cut, given}
use Rattle.day_lines.proofs.words.word.Goals as goal

pub returns : goal.returns
returns c =
    let s = c.args.text.now in
    let kept =
    nth_from_yields_List c.nth.result _ c.args.index c.nth.ensures.ran
    (YieldsList-from_filter _ (λ p. not (length p == 0))
    (YieldsList-at c.filter.ensures.source
    (YieldsList-from_slice_split _ is_blank s c.split.ensures.rest c.split.ensures.done c.split.ensures.closure (λ x b q k. search (rules, tests))))
    c.filter.ensures.closure (λ x b q k. search (rules, tests))) in
    rw (c.unwrap_or.ensures, words-cut s) (given c.nth.result _ _ c.args.index kept refl)
