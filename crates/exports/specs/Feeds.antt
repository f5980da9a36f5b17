-- The lines of the feed for Rust and C: what a line reads as, in numbers, and the line of a delta of numbers.
use Rattle.std.specs.Prelude.{ℕ, List}
use Rattle.types.specs.Replies.{Reply, done, refused}
use Rattle.types.specs.Named.{side_number}
use Rattle.told.specs.declared.Told.{Told}
use Rattle.told.specs.Numbers.{tell}
use Rattle.deltas.specs.declared.BookDelta.{BookDelta}
use Rattle.deltas.specs.Delta.{action_number}
use Rattle.orderbook.specs.declared.OrderBook.{OrderBook}
use Rattle.frames.specs.Frames.{Frame, delta, snapshot}
use Rattle.frames.specs.Sent.{delta_line}
use Rattle.lines.specs.Read.{Read}
use Rattle.names.specs.Names.{delta_by}
use Rattle.names.specs.Kinds.{kind_of}
use Rattle.exports.specs.declared.LineTold.{LineTold}

-- a line without the numbers of a delta
abbrev pub bare_line : Told → OrderBook → LineTold
bare_line t b = record { told = t; side = 0; action = 0; price = 0; quantity = 0; sequence = 0; book = b }

-- a delta's numbers, as its line has them, and a book
abbrev pub delta_told : Told → BookDelta → OrderBook → LineTold
delta_told t d b =
    record {
      told = t;
      side = side_number d.side;
      action = action_number d.action;
      price = d.price;
      quantity = d.quantity;
      sequence = d.sequence;
      book = b;
    }

-- what a line is told as, beside its kind or 12
abbrev pub line_by : Told → Reply Frame → OrderBook → LineTold
line_by t (done (delta d)) b = delta_told t d b
line_by t (done (snapshot s)) b = bare_line t b
line_by t (refused n vs) b = bare_line t b

-- a line: its kind or 12, a delta's numbers, a snapshot's book
abbrev pub line_told : Read → LineTold
line_told r = line_by (tell kind_of r.reply) r.reply r.book

-- a delta's line, if the numbers name one, else 2
abbrev pub line_of : Reply BookDelta → Reply (List ℕ)
line_of (done d) = delta_line d
line_of (refused n vs) = refused n vs

-- the line of a delta of numbers
unfoldable pub delta_line_by : ℕ → ℕ → ℕ → ℕ → ℕ → Reply (List ℕ)
delta_line_by side action price quantity sequence = line_of (delta_by side action price quantity sequence)
