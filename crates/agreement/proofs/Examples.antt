-- A sender at work, so that the hypotheses of Agreement are seen to be met: what it sends, first and last, and lines damaged in each way.
use Rattle.std.proofs.Common.{arith, sym, append-nil}
use Rattle.std.specs.Prelude.{◌≡◌, refl, List, [], ◌∷◌}
use Rattle.types.specs.declared.Side.TheVariants.{Bid}
use Rattle.levels.specs.Order.{leads, in_order}
use Rattle.levels.specs.Table.{level}
use Rattle.levels.specs.Formed.{every, well_formed}
use Rattle.levels.specs.Change.{set_level, remove_level}
use Rattle.deltas.specs.declared.BookDelta.{BookDelta}
use Rattle.deltas.specs.declared.DeltaAction.TheVariants.{Set, Remove}
use Rattle.sides.specs.Best.{best_of, is_apart}
use Rattle.orderbook.specs.Book.{sides_fit}
use Rattle.orderbook.specs.Apply.{tried, applied}
use Rattle.wire.specs.Wire.{digit, check_byte}
use Rattle.frames.specs.Frames.{delta, snapshot, digits}
use Rattle.streams.specs.Streams.{lines}
use Rattle.streams.specs.Channel.{Piece, sent, replaced, cut, joined, IsDamage, stream}
use Rattle.agreement.specs.Agreement.{history, count, Sends, Comes, Arrived}

-- Set bid 100×5, a Set that crosses nothing but has the wrong number, and Remove bid 100 with a quantity
abbrev set : BookDelta
set = record { side = Bid; price = 100; quantity = 5; action = Set; sequence = 1 }

abbrev late : BookDelta
late = record { side = Bid; price = 99; quantity = 5; action = Set; sequence = 7 }

abbrev remove : BookDelta
remove = record { side = Bid; price = 100; quantity = 9; action = Remove; sequence = 2 }

-- as it is sent, the Remove has quantity 0
abbrev removed : BookDelta
removed = record { side = Bid; price = 100; quantity = 0; action = Remove; sequence = 2 }

abbrev offered : List BookDelta
offered = set ∷ late ∷ remove ∷ []

-- two of the three are accepted
accepted : count offered ≡ 2
unfolding history applied tried set_level remove_level sides_fit well_formed in_order leads every best_of is_apart
accepted = refl

-- it sends the first delta and the last, and the snapshot before the first delta, after it, and after the last
sends_deltas : Sends offered (delta set) × Sends offered (delta removed)
unfolding history applied tried set_level remove_level sides_fit well_formed in_order leads every best_of is_apart
sends_deltas = ((0, refl), (1, refl))

sends-snapshots :
    Sends offered (snapshot (record { sequence = 0; bids = []; asks = [] })) ×
    Sends offered (snapshot (record { sequence = 1; bids = level 100 5 ∷ []; asks = [] })) ×
    Sends offered (snapshot (record { sequence = 2; bids = []; asks = [] }))
unfolding history applied tried set_level remove_level sides_fit well_formed in_order leads every best_of is_apart
sends-snapshots = ((0, omega arith, refl), (1, omega arith, refl), (2, omega arith, refl))

-- the snapshot at 0; the first delta's line, cut to one digit, then with its first digit, a 0, become a 9, then with its last, a 5, become a 6;
-- and as the last thing to come a line without its line feed
abbrev damage : List Piece
damage =
    sent (snapshot (record { sequence = 0; bids = []; asks = [] })) ∷ cut (delta set) 1 ∷ replaced (delta set) 0 57 ∷ replaced (delta set) 39 54 ∷ joined (delta set) ∷ []

comes : Comes offered damage
unfolding digits digit check_byte
comes =
    let d = sends_deltas.0 in
    let first : IsDamage (replaced (delta set) 0 57) = (omega arith, λ e. omega arith, λ e. omega arith) in
    let last : IsDamage (replaced (delta set) 39 54) = (omega arith, λ e. omega arith, λ e. omega arith) in
    (tt, sends-snapshots.0, ((omega arith, omega arith), d, (first, d, (last, d, (tt, d, tt)))))

-- so its lines do arrive
arrives : Arrived offered (lines (stream damage))
arrives = record { pieces = damage; rest = []; from_sender = comes; split = sym (append-nil (lines (stream damage))) }
