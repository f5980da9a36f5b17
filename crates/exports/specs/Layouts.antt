-- What the archive says of itself: its version, and how many bytes each record that crosses takes, as C lays it out on x86-64 and aarch64. A price, a quantity and
-- an average are 4 bytes, a sign 1, and all else 8; what is shorter than 8 is filled up to 8 where a number of 8 follows or the record ends.
use Rattle.std.specs.Prelude.{ℕ, ◌+◌, ◌*◌, ◌≡◌, refl}
use Rattle.types.specs.Limits.{max_levels, symbols}
use Rattle.exports.specs.declared.layout.Layout.{Layout}

-- the number of a release
abbrev pub release : ℕ → ℕ → ℕ → ℕ
release major minor patch = major * 1000000 + minor * 1000 + patch

releases : (release 0 4 0 ≡ 4000) × (release 1 12 3 ≡ 1012003)
releases = (refl, refl)

-- a side: a row of prices, a row of quantities, a count
abbrev pub side_bytes : ℕ
side_bytes = max_levels * 4 + max_levels * 4 + 8

-- a book: two sides and a sequence
abbrev pub book_bytes : ℕ
book_bytes = side_bytes + side_bytes + 8

-- what stands beside a book's rows: two counts and a sequence
abbrev pub counts_bytes : ℕ
counts_bytes = 8 + 8 + 8

-- an answer: its number, the count of its values, and four values, each a size and a sign
abbrev pub told_bytes : ℕ
told_bytes = 8 + 8 + 4 * (8 + 8)

-- a ledger: cash, commission, and a row of quantities, one of averages and one of profits
abbrev pub ledger_bytes : ℕ
ledger_bytes = 8 + 8 + symbols * 8 + symbols * 4 + symbols * 8

-- release 0.4.0. A receiver is a state and a book; a line is an answer, a side, an action, a price and a quantity, a sequence and a book
abbrev pub layout : Layout
layout =
    record {
      version = release 0 4 0;
      book = book_bytes;
      ledger = ledger_bytes;
      held = 8 + book_bytes;
      told = told_bytes;
      counts = counts_bytes;
      counts_told = counts_bytes + told_bytes;
      ledger_told = ledger_bytes + told_bytes;
      turn_told = 8 + counts_bytes + told_bytes;
      line_told = told_bytes + 8 + 8 + (4 + 4) + 8 + book_bytes;
    }
