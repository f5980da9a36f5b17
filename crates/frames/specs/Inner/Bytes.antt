-- A delta's line by its 20 bytes: what `read_delta` works on.
use Rattle.std.specs.Prelude.{ℕ, ◌%◌, Bool, ◌&&◌, List, eqb, leb, get_or, take, drop}
use Rattle.types.specs.Named.{side_named}
use Rattle.deltas.specs.declared.BookDelta.{BookDelta}
use Rattle.deltas.specs.Delta.{action_named}
use Rattle.wire.specs.Wire.{byte_sum}
use Rattle.wire.specs.Inner.Spelling.{joined}

-- the numbers that stand where a delta has its own
abbrev pub delta_of : List ℕ → BookDelta
delta_of bs = record {
  side = side_named (get_or bs 1 0);
  price = joined 0 (take 4 (drop 3 bs));
  quantity = joined 0 (take 4 (drop 7 bs));
  action = action_named (get_or bs 2 0);
  sequence = joined 0 (take 8 (drop 11 bs));
}

-- a delta's kind, a side, an action, and a sum that is a multiple of 256
abbrev pub is_delta : List ℕ → Bool
is_delta bs = eqb (get_or bs 0 0) 1 && (leb (get_or bs 1 0) 1 && (leb (get_or bs 2 0) 1 && eqb (byte_sum bs % 256) 0))
