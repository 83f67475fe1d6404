-- Texts of numbers: an optional sign, digits, and optionally a point and digits; at least one digit in all.
use Rattle.std.specs.Prelude.{ℕ, ◌==◌, Bool, ◌&&◌, List, ◌++◌, length, nat_lt, ℤ, Option, Some, None, if◌then◌else◌, option_and_then}
use Rattle.std.specs.List.{before_first, after_first, list_all}
use Rattle.std.specs.Char.{is_ascii_digit}
use Rattle.std.specs.Str.Parse.{without_leading_sign, signed_digits_value}
use Rattle.passkey_iana.specs.Signed64.{is_signed_64}

-- `.`
abbrev pub is_point : ℕ → Bool
is_point c = c == 46

-- the text before the first point, and after it
abbrev pub before_point : List ℕ → List ℕ
before_point text = before_first is_point text

abbrev pub after_point : List ℕ → List ℕ
after_point text = after_first is_point text

-- both together, without a leading sign
abbrev pub digits : List ℕ → List ℕ
digits text = without_leading_sign (before_point text) ++ after_point text

abbrev pub is_number_text : List ℕ → Bool
is_number_text text = list_all is_ascii_digit (digits text) && nat_lt 0 (length (digits text))

-- the number that a number's text denotes, rounded towards zero
abbrev pub whole_of : List ℕ → Option ℤ
whole_of text = if is_number_text text then Some (signed_digits_value 10 (before_point text)) else None

-- the number, if it fits in 64 bits, signed
abbrev pub signed_64 : ℤ → Option ℤ
signed_64 z = if is_signed_64 z then Some z else None

-- the number that the text denotes, rounded towards zero, if it fits
abbrev pub whole_64 : List ℕ → Option ℤ
whole_64 text = option_and_then signed_64 (whole_of text)
