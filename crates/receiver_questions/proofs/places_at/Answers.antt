-- `places_at` meets its contract: the answer of the book's listing behind the state's gate.
use mathlib.Core.Path.{◌∙◌, ap}
use Rattle.receiver_questions.specs.Gate.{gate}
use Rattle.receiver_questions.proofs.Gated.{gate-fitted}
use Rattle.receiver_questions.proofs.places_at.Goals as goal

pub returns : goal.returns
returns c = c.gated.ensures ∙ (ap (gate c.args.state) c.places_at.ensures ∙ gate-fitted _ _ _)
