-- `put_fill` meets its contract: the five numbers stand from the place on.
use Rattle.std.proofs.Common.{◌≡◌, ℕ, ◌+◌, ◌-◌, ◌≤◌, List, ℤ, length, append_assoc, arith, rules}
use Rattle.std.proofs.lemmas.List.{drop-drop}
use Rattle.std.proofs.lemmas.List.Edits.{sets, sets-eq}
use borrow.Rule.Slice.PartMut.{put_mid}
use Rattle.day.specs.Numbers.{fill_numbers}
use Rattle.day_keeping.proofs.fills.put_fill.Goals as goal

-- a part that is written, and the same written one by one
put_mid-sets : (at k : ℕ) (xs ys : List ℤ) → k ≡ length ys → at + length ys ≤ length xs → put_mid at k xs ys ≡ sets xs at ys
put_mid-sets at k xs ys e h = rw (sets-eq ys xs at h, e, drop-drop, append_assoc)

pub returns : goal.returns
returns c =
    let a = c.args in
    let room : length a.numbers.now ≡ 500000 = search rules in
    let five : c.copy_from_slice.new.self ≡ fill_numbers a.fill = search rules in
    rw five (put_mid-sets a.at (a.at + 5 - a.at) a.numbers.now (fill_numbers a.fill) (omega arith) (omega (arith, c.requires)))
