-- Words and the numbers that they are.
use Rattle.std.specs.Prelude.{◌≡◌, refl, [], pos, neg_ℤ, Some, None}
use Rattle.amount.specs.Whole.{amount}
use Rattle.types.specs.Bytes.{bytes}
use Rattle.numerals.specs.Numerals.{digits_on, numeral_up_to, signed_of}

-- up to 255
small :
    (numeral_up_to 255 (bytes "0") ≡ Some 0)
    × (numeral_up_to 255 (bytes "0065") ≡ Some 65)
    × (numeral_up_to 255 (bytes "255") ≡ Some 255)
    × (numeral_up_to 255 (bytes "256") ≡ None)
    × (numeral_up_to 255 [] ≡ None)
    × (numeral_up_to 255 (bytes "-1") ≡ None)
    × (numeral_up_to 255 (bytes "1a") ≡ None)
unfolding digits_on
small = (refl, refl, refl, refl, refl, refl, refl)

-- with a sign; the ends of 64 bits, and one beyond each
signed :
    (signed_of (bytes "-7") ≡ Some (amount (neg_ℤ (pos 7))))
    × (signed_of (bytes "007") ≡ Some (amount (pos 7)))
    × (signed_of (bytes "-") ≡ None)
    × (signed_of (bytes "+7") ≡ None)
    × (signed_of (bytes "--7") ≡ None)
    × (signed_of (bytes "9223372036854775807") ≡ Some (amount (pos 9223372036854775807)))
    × (signed_of (bytes "9223372036854775808") ≡ None)
    × (signed_of (bytes "-9223372036854775808") ≡ Some (amount (neg_ℤ (pos 9223372036854775808))))
    × (signed_of (bytes "-9223372036854775809") ≡ None)
unfolding digits_on
signed = (refl, refl, refl, refl, refl, refl, refl, refl, refl)
