-- `put_kept` meets its contract: the numbers of the fills that are kept are lent, and what is put of them is what is printed of the text.
use Prim.Native.Nat.{◌*◌, ◌≤◌}
use mathlib.Core.Path.{◌≡◌}
use native.Mathlib.Omega.{arith}
use borrow.Author.Rules.{rules}
use lib.ListN.{length}
use Rattle.day_collecting.proofs.Few.{kept_few}
use Rattle.day_booking.proofs.Printed.{text-put}
use Rattle.day_booking.proofs.put_kept.Goals as goal

pub returns : goal.returns
returns c text k =
    let f = c.args.fills.now in
    let few = kept_few text _ k in
    let n : length f.numbers ≡ 500000 = search rules in
    let within : 5 * f.count ≤ length f.numbers = omega (arith, few) in
    text-put text c.args.day c.args.opening f c.args.out.now _ _ k c.requires.0 c.requires.1 within (rw (c.used.ensures few) at c.put_opened.ensures)
