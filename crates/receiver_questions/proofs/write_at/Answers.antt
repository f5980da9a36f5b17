-- `write_at` meets its contract: waiting, nothing is written; live, the book's writer writes.
use mathlib.Core.Path.{◌∙◌}
use Rattle.receiver_questions.proofs.Gated.{waiting-left, live_left}
use Rattle.receiver_questions.proofs.write_at.Goals as goal

pub returns-in_default : goal.returns-in_default
returns-in_default c = waiting-left _ _ _ c.in_default.is _ c.places_at.ensures

pub returns : goal.returns
returns c = let live = c in
    c.write_at.ensures ∙ live_left _ live.args.out.now _ (cc)
