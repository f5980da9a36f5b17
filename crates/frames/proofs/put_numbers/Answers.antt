-- `frames::put_numbers` meets its contract: each number is written after the one before, and parts join.
use mathlib.Core.List.{[]}
use Prim.Native.Nat.{◌+◌}
use native.Mathlib.Omega.{arith}
use Rattle.wire.specs.Wire.{be}
use Rattle.wire.proofs.Places.{then}
use Rattle.frames.proofs.put_numbers.Goals as goal

pub returns : goal.returns
returns c =
    let a = c.args in
    let p = c.put-sum in
    let q = c.put-sum2 in
    let r = c.put-sum3 in
    then 4 a.price (be 4 a.quantity (be 8 a.sequence [])) 3 a.out.now p.new.out r.new.out p.result (q.result + r.result) p.ensures
    (then 4 a.quantity (be 8 a.sequence []) 7 p.new.out q.new.out r.new.out q.result r.result q.ensures r.ensures (omega (arith, p.auto.out, c.requires)))
    (omega (arith, c.requires))
