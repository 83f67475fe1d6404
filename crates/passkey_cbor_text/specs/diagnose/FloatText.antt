-- The text of a float (RFC 8949, sections 3.3 and 8; IEEE 754, section 3.4): its value exactly, and its encoding's width.
use Rattle.std.specs.Prelude.{ℕ, zero, suc, ◌+◌, ◌-◌, ◌*◌, ◌/◌, ◌%◌, ◌^◌, List, [], ◌∷◌, ◌++◌, ◌==◌, ◌&&◌, not, false, nat_lt}
use Rattle.std.specs.Prelude.{nat_le, if◌then◌else◌, Option, Some, None, codes, decimal}
use Rattle.std.specs.Fmt.{digits}
use Rattle.passkey_cbor.specs.FloatParts.{FloatParts}
use Rattle.passkey_cbor_text.specs.declared.diagnose.float.Binary.{Binary}

-- the fields of the bits: the sign, whose bit is given; the exponent, and its greatest value, which is below its range; the
-- fraction, and the first number that doesn't fit in it. A finite value is a whole number times 2 ^ (max 1 exponent - scale).
abbrev pub binary_by : ℕ → ℕ → ℕ → ℕ → ℕ → Binary
binary_by bits sign one range scale = record {
  negative = bits / sign == 1;
  exponent = bits / one % range;
  greatest = range - 1;
  fraction = bits % one;
  one = one;
  scale = scale;
}

-- the digits after the point, this many, of rest / whole, which is below 1
abbrev pub digits_after : ℕ → ℕ → ℕ → List ℕ
digits_after zero rest whole = []
digits_after (suc n) rest whole = (48 + rest * 10 / whole) ∷ digits_after n (rest * 10 % whole) whole

-- n times a power of two, whose sign is that of the exponent
abbrev pub hexadecimal_text : ℕ → List ℕ → ℕ → List ℕ
hexadecimal_text n sign exponent = codes "0x" ++ digits 16 false n ++ sign ++ decimal exponent

-- n / 2 ^ k, which is in its lowest terms: in decimal, with a digit after the point for each halving
abbrev pub quotient_text : ℕ → ℕ → List ℕ
quotient_text n k =
    if k == 0 then decimal n ++ codes ".0"
    else if nat_le k 60 then decimal (n / 2 ^ k) ++ (46 ∷ digits_after k (n % 2 ^ k) (2 ^ k))
    else hexadecimal_text n (codes "p-") k

-- n / 2 ^ k, brought to its lowest terms
abbrev pub halved_text : ℕ → ℕ → List ℕ
halved_text n zero = quotient_text n 0
halved_text n (suc k) = if n % 2 == 0 then halved_text (n / 2) k else quotient_text n (suc k)

-- n * 2 ^ k, if it is below 2 ^ 64
abbrev pub doubled : ℕ → ℕ → Option ℕ
doubled n k = if nat_lt k 64 then (if nat_lt (n * 2 ^ k) (2 ^ 64) then Some (n * 2 ^ k) else None) else None

abbrev pub decimal_or : Option ℕ → List ℕ → List ℕ
decimal_or (Some product) other = decimal product ++ codes ".0"
decimal_or None other = other

-- n * 2 ^ k: in decimal if it is below 2 ^ 64
abbrev pub doubled_text : ℕ → ℕ → List ℕ
doubled_text n k = decimal_or (doubled n k) (hexadecimal_text n (codes "p") k)

-- n * 2 ^ (power - scale)
abbrev pub scaled_text : ℕ → ℕ → ℕ → List ℕ
scaled_text n power scale =
    if nat_lt power scale then halved_text n (scale - power) else doubled_text n (power - scale)

abbrev pub sign_text : Binary → List ℕ
sign_text b = if b.negative then 45 ∷ [] else []

-- a value, and an infinity or no number where the exponent is the greatest
unfoldable pub binary_text : Binary → List ℕ
binary_text b =
    if b.exponent == b.greatest && not (b.fraction == 0) then codes "NaN"
    else if b.exponent == b.greatest then sign_text b ++ codes "Infinity"
    else if b.exponent == 0 then sign_text b ++ scaled_text b.fraction 1 b.scale
    else sign_text b ++ scaled_text (b.one + b.fraction) b.exponent b.scale

unfoldable pub binary_of : FloatParts → Binary
binary_of f =
    if f.width == 2 then binary_by f.bits (2 ^ 15) (2 ^ 10) (2 ^ 5) 25
    else if f.width == 4 then binary_by f.bits (2 ^ 31) (2 ^ 23) (2 ^ 8) 150
    else binary_by f.bits (2 ^ 63) (2 ^ 52) (2 ^ 11) 1075

-- the width: 2, 4 or 8 bytes
unfoldable pub mark_of : ℕ → List ℕ
mark_of width = if width == 2 then codes "_1" else if width == 4 then codes "_2" else codes "_3"

-- the value, and the width
abbrev pub float_text : FloatParts → List ℕ
float_text f = binary_text (binary_of f) ++ mark_of f.width
