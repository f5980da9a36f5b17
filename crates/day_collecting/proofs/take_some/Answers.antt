-- `take_some` meets its contract: the bytes that came were taken.
use Prim.Native.Nat.{◌≤◌}
use mathlib.Core.Path.{◌≡◌}
use native.Mathlib.Omega.{arith}
use borrow.Author.Rules.{rules}
use lib.ListN.{length, take, length-take}
use Rattle.day_collecting.proofs.Texts.{took_bytes}
use Rattle.day_collecting.proofs.take_some.Goals as goal

pub returns-in-Ok-clause-taken : goal.returns-in-Ok-clause-taken
returns-in-Ok-clause-taken g c =
    let chunk = c.read.new.buf in
    let whole : length chunk ≡ 65536 = search rules in
    let few : length (take c.in-Ok.n chunk) ≤ 65536 = rw length-take (omega arith) in
    λ g. took_bytes 65536 _ _ _ _ (take c.in-Ok.n chunk) few c.take_bytes.ensures.goes
