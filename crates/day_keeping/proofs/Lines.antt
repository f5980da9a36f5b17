-- A law of a line that was taken: no line keeps more fills than there is room for.
use Prim.Native.Nat.{◌≤◌}
use native.Mathlib.Omega.{arith}
use borrow.Author.Tests.{ltb-true}
use lib.Dec.{ltb}
use Rattle.std.specs.Option.{is_some}
use Rattle.types.proofs.Booleans.{by}
use Rattle.day_lines.specs.Lines.{max_fills}
use Rattle.day_lines.specs.declared.Said.{Said}
use Rattle.day_lines.specs.declared.Said.TheVariants as L
use Rattle.day_keeping.specs.Inner.Keeping.{Kept, line_taken}

pub few_fills : (s : Said) (k : Kept) → k.fills ≤ 100000 → (line_taken s k).fills ≤ 100000
few_fills L.Nothing k l = l
few_fills (L.Cash cash) k l = l
few_fills (L.Fill f) k l =
    by (is_some k.day.opening)
    (λ o.
    rw o
    (by (ltb k.fills max_fills)
    (λ t. let m = ltb-true k.fills max_fills t in rw t (omega (arith, m)))
    (λ t. rw t l)))
    (λ o. rw o l)
few_fills L.Other k l = l
