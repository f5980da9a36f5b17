-- `rows::first_fill`: each test that is not passed refuses with 2, and numbers that pass them all are the fill.
use Rattle.std.proofs.Common.{rules, ◌≡◌}
use Rattle.std.specs.Prelude.{slice_index_or, pos}
use mir.Val.{to_z, of_z}
use mir.Syntax.{w64}
use mathlib.Core.Bool.{and-false}
use Rattle.std.proofs.lemmas.Result.{err_from_is_err_and}
use Rattle.day.proofs.Numbers.{within, outside, a_fill}
use Rattle.day.proofs.rows.first_fill.Goals as goal

pub returns-in_err-word_at-2 : goal.returns-in_err-word_at-2
returns-in_err-word_at-2 c =
    let p = err_from_is_err_and c.from_residual-in_err-word_at-2.result c.from_residual-in_err-word_at-2.ensures.1 in
    let o = outside _ _ _ c.in_err-word_at-2.ensures in
    rw (p.1, p.2, o.0, o.1, o.2) (simp and-false)

pub returns-in_err-word_at-3 : goal.returns-in_err-word_at-3
returns-in_err-word_at-3 c =
    let p = err_from_is_err_and c.from_residual-in_err-word_at-3.result c.from_residual-in_err-word_at-3.ensures.1 in
    let o = outside _ _ _ c.in_err-word_at-3.ensures in
    rw (p.1, p.2, o.0, o.1, o.2) (simp and-false)

pub returns : goal.returns
returns c =
    let ns = c.args.numbers.now in
    let e : to_z w64 (of_z w64 (slice_index_or ns 4 (pos 0))) ≡ slice_index_or ns 4 (pos 0) = search rules in
    rw e (a_fill ns _ _ _ _ (within _ _ _ c.in_ok-word_at.ensures) (within _ _ _ c.in_ok-side_at.ensures) (within _ _ _ c.in_ok-word_at-2.ensures) (within _ _ _ c.in_ok-word_at-3.ensures))
