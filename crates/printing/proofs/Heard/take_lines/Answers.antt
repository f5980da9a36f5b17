-- `take_lines` meets its contract. The loop's invariant: what is left, from here on, comes to what all of it comes to from the start.
use Rattle.std.proofs.Common.{rules}
use Rattle.std.proofs.lemmas.Fn.{always_returns_same}
use Rattle.printing.proofs.Runs.{one_more_lem, at_end}
use Rattle.printing.proofs.Places.{ends_line, first_part}
use Rattle.printing.proofs.Heard.take_lines.Goals as goal

pub loop-line-preserved : goal.loop-line-preserved
loop-line-preserved c =
    let a = c.args in
    let l = c.loop-line in
    let s = c.in-Some.ensures.steps in
    let t = c.take_one-used in
    let k = first_part _ _ _ s.1.0 s.0 s.1.1 (s.1.2 ends_line (always_returns_same _ _ _ (λ a r f' k. search rules))).1 s.2 in
    one_more_lem a.text.now _ _ a.at a.out.now _ _ _ l.used l.out l.invariant _ _ k.0 k.1
    _ _ t.result _ t.ensures.receiver_value t.ensures.number_value t.ensures.puts t.ensures.used_bound

pub returns : goal.returns
returns c =
    let l = c.loop-line in
    let e = at_end c.args.text.now _ _ c.args.at c.args.out.now _ _ _ l.used l.out l.invariant c.in-None.ensures.steps.0 in
    record { receiver_value = e.0; number_value = e.1; puts = e.2 }
