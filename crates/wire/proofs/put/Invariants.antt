-- `wire::put` meets its contract. The invariant: the bytes w are written from byte at + j on, and the j bytes of `rest` before them are n's.
use Rattle.std.proofs.Common.{ℕ, ◌+◌, ◌*◌, ◌≤◌, ◌≡◌, List, [], ◌++◌, take, drop}
use Rattle.wire.specs.Wire.{digits_of, be, byte_sum}
use Rattle.wire.proofs.put.Given as goal

abbrev pub invariant-loop-j : goal.invariant-loop-j
invariant-loop-j l = (w : List ℕ) × (be l.k l.n [] ≡ be l.j l.rest w) × (l.out ≡ take (2 * (l.at + l.j)) l.initial.out ++ (digits_of w ++ drop (2 * (l.at + l.k)) l.initial.out))
    × (l.sum ≡ byte_sum w) × (l.sum + 256 * l.j ≤ 256 * l.k)
