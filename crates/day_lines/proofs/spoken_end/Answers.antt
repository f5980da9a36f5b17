-- `spoken_end` meets its contract: the first `#` is where the remark begins.
use Rattle.std.proofs.Common.{◌≡◌, ◌==◌, not, rules, tests}
use Rattle.std.specs.List.{position}
use Rattle.std.proofs.lemmas.Iterator.{YieldsList-from_slice}
use Rattle.std.proofs.lemmas.Iterator.Search.{position_from_yields_List}
use Rattle.std.proofs.lemmas.List.Sums.{prefix_len-le-length}
use Rattle.day_lines.proofs.Cuts.{spoken-take, first-at}
use Rattle.day_lines.proofs.spoken_end.Goals as goal

pub returns : goal.returns
returns c =
    let s = c.args.line.now in
    let e : c.position.result ≡ position (λ b. b == 35) s =
    position_from_yields_List (λ b. b == 35) _ _ c.position.result c.position.ensures.ran (YieldsList-from_slice s cc) (λ x b q k. search (rules, tests)) in
    rw (c.unwrap_or.ensures, e, first-at) (prefix_len-le-length (λ b. not (b == 35)) s, spoken-take s)
