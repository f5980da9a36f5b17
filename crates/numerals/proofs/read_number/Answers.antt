-- `read_number` meets its contract. The loop's invariant: what is left to read gives what the whole word gives.
use Rattle.std.proofs.Common.{sym, arith}
use Rattle.numerals.proofs.Digits.{one_read, none_read, all_read}
use Rattle.numerals.proofs.read_number.Goals as goal

pub returns-in_err-n : goal.returns-in_err-n
returns-in_err-n c =
    let l = c.loop-byte in
    let a = c.args in
    let none = none_read a.limit a.word.now l.n l.byte-index c.loop-byte-test.true l.invariant.left (sym c.in_err-n.ensures.0) in
    rw c.from_residual.ensures (none, omega arith)

pub loop-byte-preserved : goal.loop-byte-preserved
loop-byte-preserved c =
    let l = c.loop-byte in
    let a = c.args in
    record {
      within = c.in_ok-n.ensures.1;
      left = one_read a.limit a.word.now l.n l.byte-index c.loop-byte-test.true l.invariant.left c.in_ok-n.n (sym c.in_ok-n.ensures.0);
    }

pub returns : goal.returns
returns c =
    let l = c.loop-byte in
    let a = c.args in
    (all_read a.limit a.word.now l.n l.byte-index (omega arith) l.invariant.within l.invariant.left, l.invariant.within)
