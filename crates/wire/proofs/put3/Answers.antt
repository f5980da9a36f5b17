-- `wire::put3` meets its contract: each number is written after the one before, and parts join.
use Prim.Native.Nat.{◌+◌}
use mathlib.Core.List.{[]}
use native.Mathlib.Omega.{arith}
use Rattle.wire.specs.Wire.{be}
use Rattle.wire.proofs.Places.{small_sum, then}
use Rattle.wire.proofs.put3.Goals as goal

pub returns : goal.returns
returns c =
    let a = c.args in
    let p = c.put-sum in
    let q = c.put-sum2 in
    let r = c.put-sum3 in
    then a.k a.n (be a.k2 a.n2 (be a.k3 a.n3 [])) a.at a.out.now p.new.out r.new.out p.result (q.result + r.result)
    p.ensures
    (then a.k2 a.n2 (be a.k3 a.n3 []) (a.at + a.k) p.new.out q.new.out r.new.out q.result r.result
    q.ensures r.ensures (omega arith))
    (omega arith)

-- the three sums fit
pub overflow_add-result : goal.overflow_add-result
overflow_add-result c =
    let a = c.args in
    let s = small_sum a.k a.n _ _ _ _ c.put-sum.ensures (omega arith) in
    let t = small_sum a.k2 a.n2 _ _ _ _ c.put-sum2.ensures (omega arith) in
    let u = small_sum a.k3 a.n3 _ _ _ _ c.put-sum3.ensures (omega arith) in
    omega arith

pub overflow_add-result-2 : goal.overflow_add-result-2
overflow_add-result-2 c =
    let a = c.args in
    let s = small_sum a.k a.n _ _ _ _ c.put-sum.ensures (omega arith) in
    let t = small_sum a.k2 a.n2 _ _ _ _ c.put-sum2.ensures (omega arith) in
    let u = small_sum a.k3 a.n3 _ _ _ _ c.put-sum3.ensures (omega arith) in
    omega arith
