-- Integers in decimal, as CBOR has them: from -2^64 to 2^64 - 1 (RFC 8949, section 3.1).
use Rattle.std.specs.Prelude.{ℕ, ◌+◌, ◌-◌, ◌*◌, ◌^◌, ◌==◌, ◌&&◌, nat_le, if◌then◌else◌, ℤ, pos, neg_ℤ, List, [], ◌∷◌, Option, Some, None, option_map}
use Rattle.std.specs.Option.{option_and_then}
use Rattle.passkey_cbor.specs.Ranges.{is_integer}

-- the number with one more digit, if it is one and the number isn't too large
abbrev pub with_digit : ℕ → ℕ → Option ℕ
with_digit n c =
    if nat_le 48 c && nat_le c 57 && nat_le (10 * n + (c - 48)) (2 ^ 64) then Some (10 * n + (c - 48)) else None

abbrev pub with_digits : ℕ → List ℕ → Option ℕ
with_digits n [] = Some n
with_digits n (c ∷ cs) = option_and_then (λ m. with_digits m cs) (with_digit n c)

-- the number that has these digits, of which there is at least one
abbrev pub natural : List ℕ → Option ℕ
natural [] = None
natural (c ∷ cs) = with_digits 0 (c ∷ cs)

abbrev pub signed : List ℕ → Option ℤ
signed [] = None
signed (c ∷ cs) = if c == 45 then option_map (λ n. neg_ℤ (pos n)) (natural cs) else option_map pos (natural (c ∷ cs))

abbrev pub if_integer : ℤ → Option ℤ
if_integer z = if is_integer z then Some z else None

-- the integer in this text: digits after a sign or none, and neither a point nor an exponent
abbrev pub integer_in : List ℕ → Option ℤ
integer_in text = option_and_then if_integer (signed text)
