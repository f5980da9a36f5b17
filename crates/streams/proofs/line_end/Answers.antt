-- `streams::line_end` meets its contract: the line ends one place on from its line feed.
use Rattle.std.proofs.Common.{◌∙◌, ap, length}
use Rattle.streams.proofs.Splits.{end_of, end_found}
use Rattle.streams.proofs.line_end.Goals as goal

pub returns-in-Some : goal.returns-in-Some
returns-in-Some c = let s = c.args.s.now in ap (λ o. end_of o (length s)) c.in-Some.ensures ∙ end_found s

pub returns-in-None : goal.returns-in-None
returns-in-None c = let s = c.args.s.now in ap (λ o. end_of o (length s)) c.in-None.ensures ∙ end_found s
