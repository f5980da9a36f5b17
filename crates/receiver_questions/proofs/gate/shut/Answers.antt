-- `gate::shut` meets its contract: no value passes, and a refusal is the one kept.
use Rattle.receiver_questions.specs.Gate.{shut}
use Rattle.receiver_questions.proofs.Gates.{kept_passes}
use Rattle.receiver_questions.proofs.gate.shut.Goals as goal
use Rattle.receiver_questions.proofs.gate.shut.Goals.{in-Ok, in-Err}

pub returns : goal.returns
unfolding shut
returns g c = elim c.match-answer.branch [ in-Ok w ↦ rw (w.result-is, w.in-Ok.is) | in-Err w ↦ rw (w.result-is, w.in-Err.is) (kept_passes c.args.own w.in-Err.why _ w.kept.ensures) ]
