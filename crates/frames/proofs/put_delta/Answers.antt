-- `frames::put_delta` meets its contract: the parts join to the frame's bytes, and the check byte and line feed end its line.
use Rattle.frames.proofs.Writing.{delta-written}
use Rattle.frames.proofs.put_delta.Goals as goal

pub returns : goal.returns
returns c =
    let start = c in
    let action = c.from-2 in
    let side = c.from in
    let p = c.put_kind-sum in
    let q = c.put_numbers-sum2 in
    let f = c.finish in
    delta-written start.args.d side.result action.result start.args.out.now p.new.out q.new.out f.new.out p.result q.result
    side.ensures action.ensures p.ensures q.ensures f.ensures start.requires
