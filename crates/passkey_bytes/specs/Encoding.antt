-- The bytes that a text encodes in base64 and base64url (RFC 4648, sections 4 and 5). Decoding is as the crate
-- `base64` defines it.
use Rattle.std.specs.Prelude.{ℕ, ◌==◌, ◌≡◌, true, if◌then◌else◌, List, [], ◌∷◌, reverse, slice_index, Option, Some, None, Ok}
use Rattle.std.specs.Result.{result_ok}
use Rattle.base64.specs.declared.engine.general_purpose.GeneralPurpose.{GeneralPurpose}
use Rattle.base64.specs.declared.engine.general_purpose.TheConstants.{NO_PAD}
use Rattle.base64.specs.Engines.{url_safe_under, standard_no_pad}
use Rattle.base64.specs.GeneralPurpose.{decode_of}

-- base64url without padding, where the last symbol may have bits set beyond the last whole byte
abbrev pub url_safe_loose : GeneralPurpose
url_safe_loose = url_safe_under (record NO_PAD { decode_allow_trailing_bits = true })

-- the list without the `=` at its beginning
abbrev pub after_equals : List ℕ → List ℕ
after_equals [] = []
after_equals (x ∷ xs) = if x == 61 then after_equals xs else x ∷ xs

-- the text without the `=` at its end
abbrev pub without_equals : List ℕ → List ℕ
without_equals text = reverse (after_equals (reverse text))

-- the engine decodes "AA" to one zero byte
abbrev pub ReadsZeros : GeneralPurpose → Type 0
ReadsZeros engine = decode_of engine (65 ∷ 65 ∷ []) ≡ Ok (0 ∷ [])

-- the first four symbols, followed by "AA"
abbrev pub window : List ℕ → List ℕ
window symbols =
    slice_index symbols 0 ∷ slice_index symbols 1 ∷ slice_index symbols 2 ∷ slice_index symbols 3 ∷ 65 ∷ 65 ∷ []

-- the bytes that a text encodes in base64url, with any number of `=` at its end; `None` if it isn't base64url
abbrev pub base64url_bytes : List ℕ → Option (List ℕ)
base64url_bytes text = result_ok (decode_of url_safe_loose (without_equals text))

-- the bytes that a text encodes in base64, with any number of `=` at its end and no bit set beyond the last
-- byte; `None` if it isn't such base64
abbrev pub base64_bytes : List ℕ → Option (List ℕ)
base64_bytes text = result_ok (decode_of standard_no_pad (without_equals text))

-- the first of the two that isn't `None`
abbrev pub first_of : {X : Type 0} → Option X → Option X → Option X
first_of (Some x) other = Some x
first_of None other = other

-- the bytes of a text, decoded as base64url or else as base64
abbrev pub text_bytes : List ℕ → Option (List ℕ)
text_bytes text = first_of (base64url_bytes text) (base64_bytes text)
