-- `count` meets its contract: the words are what the chain gives.
use Rattle.std.proofs.Common.{◌==◌, not, length, ap, sym, ◌∙◌, rules, tests}
use Rattle.std.proofs.lemmas.Iterator.Consumers.{count_from_yields_List, YieldsList-from_filter, YieldsList-at}
use Rattle.std.proofs.lemmas.Iterator.Splits.{YieldsList-from_slice_split}
use Rattle.day_lines.specs.Words.{is_blank}
use Rattle.day_lines.proofs.Cuts.{words-cut}
use Rattle.day_lines.proofs.words.count.Goals as goal

pub returns : goal.returns
returns c =
    let s = c.args.text.now in
    count_from_yields_List c.filter.result _ c.count.ensures.ran
    (YieldsList-from_filter _ (λ p. not (length p == 0))
    (YieldsList-at c.filter.ensures.source
    (YieldsList-from_slice_split _ is_blank s c.split.ensures.rest c.split.ensures.done c.split.ensures.closure (λ x b q k. search (rules, tests))))
    c.filter.ensures.closure (λ x b q k. search (rules, tests))) ∙ sym (ap length (words-cut s))
