-- The states of reading a number's text: what the whole text denotes, given the part that follows.
use Rattle.std.specs.Prelude.{◌≡◌, ℕ, ℤ, pos, neg_ℤ, Bool, ◌&&◌, ◌||◌, List, ◌++◌, length, nat_lt, Option, Some, None, if◌then◌else◌, option_and_then}
use Rattle.std.specs.List.{list_all}
use Rattle.std.specs.Char.{is_ascii_digit}
use Rattle.std.specs.Str.Parse.{digits_value_after}
use Rattle.passkey_webauthn.specs.NumberText.{before_point, after_point, signed_64, whole_64}
use Rattle.passkey_webauthn.specs.declared.number_state.NumberState.{NumberState}
use Rattle.passkey_webauthn.specs.declared.number_state.NumberState.TheVariants as state

-- the number with this sign, if there is one and it fits in 64 bits
abbrev pub number_64 : Bool → Bool → ℕ → Option ℤ
number_64 is_number is_negative n =
    option_and_then signed_64 (if is_number then Some (if is_negative then neg_ℤ (pos n) else pos n) else None)

-- whether these are digits, and at least one digit is here or came before
abbrev pub are_digits : Bool → List ℕ → Bool
are_digits has_digit ds = list_all is_ascii_digit ds && (has_digit || nat_lt 0 (length ds))

-- the integer that a text in this state denotes if it goes on with `more`
abbrev pub whole_after : NumberState → List ℕ → Option ℤ
whole_after state.Empty more = whole_64 more
whole_after (state.Whole d) more = number_64 (are_digits d.has_digit (before_point more ++ after_point more))
    d.is_negative (digits_value_after 10 d.whole (before_point more))
whole_after (state.Fraction d) more = number_64 (are_digits d.has_digit more) d.is_negative d.whole
whole_after state.Refused more = None

-- The text is in this state: whatever follows it, the state determines the integer of the whole text.
abbrev pub IsOf : NumberState → List ℕ → Type 0
IsOf s text = (more : List ℕ) → whole_64 (text ++ more) ≡ whole_after s more
