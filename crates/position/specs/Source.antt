-- The original's ledger over a history, its averages as exact quotients: what our ledger is compared with. Proved in proofs/Sources.antt.
use Rattle.std.specs.Prelude.{◌≡◌, true, List, [], ◌∷◌}
use Rattle.types.specs.Replies.{done}
use Rattle.holding.specs.Source.{SourceAfter}
use Rattle.holding.specs.declared.Position.{Position}
use Rattle.holding.specs.declared.Fill.{Fill}
use Rattle.position.specs.Ledger.{position_at, is_ledger, filled_with, booked, booked_all}
use Rattle.position.specs.declared.PositionLedger.{PositionLedger}

-- over fills that are done, no small turnover among them, each average coming out whole, from the same ledger
pub data SourceRun : PositionLedger → List Fill → PositionLedger → Type 0 where
  no-fill : {l : PositionLedger} → SourceRun l [] l
  one-fill : (l m : PositionLedger) (f : Fill) (fs : List Fill) (q : Position) → (booked l f).reply ≡ done tt → SourceAfter (position_at l f.symbol) f q
      → SourceRun (filled_with l f q) fs m
      → SourceRun l (f ∷ fs) m

-- such a history leaves our ledger
abbrev pub RunIsOurs : Type 0
RunIsOurs = (l m : PositionLedger) (fs : List Fill) → is_ledger l ≡ true → SourceRun l fs m → m ≡ booked_all l fs
