-- `frames::read_delta` meets its contract: the line is a delta's if its digits are those of its bytes, and these are a whole delta's.
use native.Mathlib.Omega.{arith}
use mathlib.Core.Bool.{not, false≢true}
use mathlib.Core.Path.{◌≡◌, refl, sym, ap, ◌∙◌}
use mathlib.Core.List.{List, append-nil}
use Prim.Native.Nat.{ℕ}
use lib.ListN.{length, get_or, take}
use Rattle.types.proofs.Booleans.{passed, failed}
use Rattle.wire.specs.Wire.{digits_of}
use Rattle.wire.specs.Inner.Spelling.{spell}
use Rattle.frames.specs.Frames.{delta, encode}
use Rattle.frames.specs.Decode.{delta_in, same}
use Rattle.frames.specs.Inner.Bytes.{delta_of, is_delta}
use Rattle.deltas.specs.declared.BookDelta.{BookDelta}
use Rattle.frames.proofs.Whole.{delta-length}
use Rattle.frames.proofs.Reading.{no_delta, delta_read_lem, not-whole, same_self}
use Rattle.frames.proofs.Bytes.{own_digits, line_feed_lem, delta-bytes, in_bytes, its_line}
use Rattle.frames.proofs.read_delta.Goals.{then-line-ne41-via-then-line-ne41, then-line-ne41-via-else-line-ne41+then-line-ne10, then-line-ne41-via-else-line-ne41+else-line-ne10+then-not-read_bytes, then-line-ne41-via-else-line-ne41+else-line-ne10+else-not-read_bytes+then-not-is_delta}
use Rattle.frames.proofs.read_delta.Goals as goal

pub returns-then-line-ne41 : goal.returns-then-line-ne41
returns-then-line-ne41 c =
    let l = c.args.line.now in
    sym (no_delta l (λ v e.
    elim c.then-line-ne41.branch [
      | then-line-ne41-via-then-line-ne41 w ↦ w.if-line-ne41.true (ap length e ∙ delta-length (delta_in l))
      | then-line-ne41-via-else-line-ne41+then-line-ne10 w ↦
          w.if-line-ne10.true (ap (λ (x : List ℕ). get_or x 40 0) e ∙ line_feed_lem (delta_in l))
      | then-line-ne41-via-else-line-ne41+else-line-ne10+then-not-read_bytes w ↦
          let t = w.read_bytes.ensures.told (ap (take 40) e ∙ own_digits (delta_in l) ∙ ap (λ (x : List ℕ). digits_of (spell 20 x)) (sym e)) in
          false≢true (sym (ap not t) ∙ w.if-not-read_bytes.true-raw)
      | then-line-ne41-via-else-line-ne41+else-line-ne10+else-not-read_bytes+then-not-is_delta w ↦
          false≢true
          (sym (failed w.is_delta.ensures w.if-not-is_delta.true-raw)
          ∙ ap is_delta (w.read_bytes.ensures.bytes ∙ append-nil (spell 20 l))
          ∙ ap (λ (x : List ℕ). is_delta (spell 20 x)) e ∙ delta-bytes (delta_in l))
    ]))

pub returns : goal.returns
returns c =
    let r = c.read_bytes.ensures in
    let l = c.args.line.now in
    let spelt = r.bytes ∙ append-nil (spell 20 l) in
    let long : length l ≡ 41 = c.if-line-ne41.false in
    let inside : c.delta_in-d.result ≡ delta_in l = c.delta_in-d.ensures ∙ ap delta_of spelt ∙ in_bytes l long in
    let t = sym (ap is_delta spelt) ∙ passed c.is_delta.ensures c.if-not-is_delta.false-raw in
    let own = its_line l long t (r.own (passed refl c.if-not-read_bytes.false-raw)) (omega arith) in
    delta_read_lem l c.delta_in-d.result inside (passed c.is_whole.ensures c.if-not-is_whole.false-raw)
    (ap (λ (x : BookDelta). same l (encode (delta x))) inside ∙ ap (same l) (sym own) ∙ same_self l)

pub returns-then-not-is_whole : goal.returns-then-not-is_whole
returns-then-not-is_whole c =
    let l = c.args.line.now in
    let spelt = c.read_bytes.ensures.bytes ∙ append-nil (spell 20 l) in
    let inside : c.delta_in-d.result ≡ delta_in l = c.delta_in-d.ensures ∙ ap delta_of spelt ∙ in_bytes l c.if-line-ne41.false in
    not-whole l c.delta_in-d.result inside (failed c.is_whole.ensures c.if-not-is_whole.true-raw)
