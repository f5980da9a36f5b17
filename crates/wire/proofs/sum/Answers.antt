-- `wire::sum` meets its contract.
use Rattle.std.proofs.Common.{rules, sum, ◌≡◌, ◌∙◌}
use Rattle.wire.proofs.Spelling.{sum_bytes}
use Rattle.wire.proofs.sum.Goals as goal

pub returns : goal.returns
returns c =
    let e : c.sum.result ≡ sum c.args.bytes.now = search rules in
    e ∙ sum_bytes c.args.bytes.now
