-- `wire::put` meets its contract. The invariant: the bytes w are written from byte at + j on, and the j bytes of `rest` before them are n's.
use Rattle.std.proofs.Common.{ℕ, ◌+◌, ◌*◌, ◌-◌, ◌%◌, ◌≡◌, [], ◌∷◌, ◌++◌, length, take, drop, refl, sym, ap, ap₂, ◌∙◌, arith, take-append-drop, add-zero}
use Rattle.wire.specs.Wire.{digits_of, be, byte_sum}
use Rattle.wire.proofs.Bytes.{length-be}
use Rattle.wire.proofs.Places.{put_step, be_step}
use Rattle.wire.proofs.put.Goals as goal

pub loop-j-preserved : goal.loop-j-preserved
loop-j-preserved c =
    let a = c.args in
    let l = c.loop-j in
    let t = digits_of l.invariant.0 ++ drop (2 * (a.at + a.k)) a.out.now in (
      l.rest % 256 ∷ l.invariant.0,
      l.invariant.1 ∙ be_step l.j l.rest l.invariant.0 (omega arith),
      put_step a.out.now l.out t a.at l.j c.digit.result c.digit-in-loop-j.result (omega arith) (omega arith) l.invariant.2
          ∙ ap₂ (λ (x y : ℕ). take (2 * (a.at + (l.j - 1))) a.out.now ++ x ∷ y ∷ t) c.digit.ensures c.digit-in-loop-j.ensures,
      omega arith,
      omega arith,
    )

pub returns : goal.returns
returns c =
    let a = c.args in
    let l = c.loop-j in
    let z : l.j ≡ 0 = omega arith in
    let e : l.invariant.0 ≡ be a.k a.n [] = sym (l.invariant.1 ∙ ap (λ (i : ℕ). be i l.rest l.invariant.0) z) in
    let n : length (be a.k a.n []) ≡ a.k = simp (length-be, add-zero) refl in
    record {
      written = rw n (rw (z, e, add-zero) at l.invariant.2);
      summed = l.invariant.3 ∙ ap byte_sum e;
      small = omega arith;
    }
