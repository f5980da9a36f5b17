-- A truth value as the machine's number.
use mathlib.Core.Bool.{Bool, true, false, cond}
use mathlib.Core.Path.{◌≡◌, refl}
use mir.Val.{bool_byte}

pub bit : (b : Bool) → bool_byte b ≡ cond b 1 0
bit true = refl
bit false = refl
