-- The original's ledger over a history is ours (specs/Source.antt), proved.
use mathlib.Core.Path.{◌≡◌, refl, sym, ap, ◌∙◌}
use mathlib.Core.Bool.{true}
use mathlib.Core.List.{List}
use Rattle.holding.specs.Holding.{position_after}
use Rattle.holding.specs.declared.Fill.{Fill}
use Rattle.holding.specs.declared.Position.{Position}
use Rattle.holding.proofs.Holdings.{fill_in}
use Rattle.holding.proofs.Sources.{source_is_ours}
use Rattle.position.specs.Ledger.{position_at, is_ledger, filled_with, filled, booked_all}
use Rattle.position.specs.Source.{SourceRun, no-fill, one-fill, RunIsOurs}
use Rattle.position.specs.declared.PositionLedger.{PositionLedger}
use Rattle.position.proofs.Ledgers.{a_ledger}
use Rattle.position.proofs.Kept.{fill_done}

pub run_is_ours : RunIsOurs
unfolding booked_all filled
run_is_ours l m fs h r = each h r
  where
    each : {l m : PositionLedger} {fs : List Fill} → is_ledger l ≡ true → SourceRun l fs m → m ≡ booked_all l fs
    each h no-fill = refl
    each h (one-fill l m f fs q e s r) =
        let t = fill_done l f e in
        let k : q ≡ position_after (position_at l f.symbol) f = source_is_ours (position_at l f.symbol) f q ((a_ledger l h).rows.each f.symbol (fill_in f t.2).symbol_in) s in
        let z : filled_with l f q ≡ filled l f = ap (λ (p : Position). filled_with l f p) k in
        each (ap is_ledger z ∙ t.1) r ∙ ap (λ (n : PositionLedger). booked_all n fs) (z ∙ sym t.0)
