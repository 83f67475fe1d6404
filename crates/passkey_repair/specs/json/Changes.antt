-- What a member with a deviation becomes.
use Rattle.std.specs.Prelude.{◌^◌, ◌&&◌, ℕ, ℤ, pos, neg_ℤ, int_lt, Bool, true, false, not, if◌then◌else◌, List, [], ◌∷◌, ◌++◌, Option, Some, None, is_some, option_map, codes}
use Rattle.std.specs.Float.{Float, binary64, float_to_signed}
use Rattle.std.specs.Float.Ieee.{eq, of_int}
use Rattle.std.specs.Int.{w64}
use Rattle.std.specs.Option.{option_and_then}
use Rattle.passkey_json.specs.Written.{bytes_json, whole_json}
use Rattle.passkey_json.specs.declared.bytes_form.BytesForm.TheVariants.{Base64Url}
use Rattle.passkey_repair.specs.json.AttestationObjects.{RegistrationParts, registration_in}
use Rattle.passkey_repair.specs.declared.json.deviation.Deviation.{Deviation}
use Rattle.passkey_repair.specs.declared.json.deviation.Deviation.TheVariants as deviation
use Rattle.passkey_webauthn.specs.Transport.{transport_named}
use Rattle.serde_json.specs.Data.{Data, number, string, array, object, Items, no_items, item, no_members}
use Rattle.serde_json.specs.Find.{as_array, as_null, as_number, at, get, is_float, of_integer, to_float}
use Rattle.serde_json.specs.View.{items_of}

-- the member is left out, or has this value
pub data Change : Type 0 where
  leave_out : Change
  become : Data → Change

abbrev pub become_if : Bool → Data → Option Change
become_if b d = if b then Some (become d) else None

abbrev pub is_null : Data → Bool
is_null d = is_some (as_null d)

abbrev pub is_null_member : Option Data → Bool
is_null_member (Some d) = is_null d
is_null_member None = false

abbrev pub is_absent_or_null : Option Data → Bool
is_absent_or_null (Some d) = is_null d
is_absent_or_null None = true

-- ---- empty arrays

abbrev pub is_empty_array : Data → Bool
is_empty_array d = is_some (as_array d) && not (is_some (at 0 d))

abbrev pub is_empty_array_member : Option Data → Bool
is_empty_array_member (Some d) = is_empty_array d
is_empty_array_member None = false

-- ---- floats with a whole value

-- the magnitude below which every integer is a float (RFC 8259, section 6)
abbrev pub exact_limit : ℕ
exact_limit = 2 ^ 53

abbrev pub integer_if_exact : ℤ → Float → Option ℤ
integer_if_exact z x = if int_lt (neg_ℤ (pos exact_limit)) z && (int_lt z (pos exact_limit) && eq (of_int binary64 z) x)
    then Some z else None

-- the integer that is equal to the float, if its magnitude is below the limit
unfoldable pub exact_integer : Float → Option ℤ
exact_integer x = integer_if_exact (float_to_signed w64 x) x

abbrev pub is_float_data : Data → Bool
is_float_data (number n) = is_float n
is_float_data _ = false

-- the integer that is equal to a float
abbrev pub whole_number : Data → Option ℤ
whole_number d = if is_float_data d then option_and_then exact_integer (option_map to_float (as_number d)) else None

abbrev pub integer_for : Option Data → Option Change
integer_for member = option_map (λ z. become (number (of_integer z))) (option_and_then whole_number member)

-- ---- transports (WebAuthn Level 3, section 5.8.4)

-- a text that names no transport
abbrev pub is_unknown_transport : Data → Bool
is_unknown_transport (string s) = not (is_some (transport_named s))
is_unknown_transport _ = false

abbrev pub has_unknown_transport : Items → Bool
has_unknown_transport no_items = false
has_unknown_transport (item d ds) = if is_unknown_transport d then true else has_unknown_transport ds

abbrev pub if_known : Data → List Data
if_known d = if is_unknown_transport d then [] else d ∷ []

-- the other elements, in their order
abbrev pub known_transports : Items → List Data
known_transports no_items = []
known_transports (item d ds) = if_known d ++ known_transports ds

abbrev pub without_unknown : Data → Option Change
without_unknown (array ds) = become_if (has_unknown_transport ds) (array (items_of (known_transports ds)))
without_unknown _ = None

abbrev pub without_unknown_in : Option Data → Option Change
without_unknown_in member = option_and_then without_unknown member

-- ---- registrations from before WebAuthn Level 3

abbrev pub become_auth_data : RegistrationParts → Change
become_auth_data r = become (bytes_json Base64Url r.0)

abbrev pub become_algorithm : RegistrationParts → Change
become_algorithm r = become (whole_json r.1)

-- ---- deviations

abbrev pub no_text : Data
no_text = string []

-- the other value, if the member is absent
abbrev pub if_absent : {A : Type 0} → Option Data → Option A → Option A
if_absent (Some d) other = None
if_absent None other = other

-- how the member with this name of an object changes, if it deviates so
abbrev pub change_for : Deviation → List ℕ → Data → Option Change
change_for deviation.NullMember name d = if is_null_member (get name d) then Some leave_out else None
change_for deviation.NoName name d = become_if (is_absent_or_null (get name d)) no_text
change_for deviation.EmptyArray name d = become_if (is_empty_array_member (get name d)) no_text
change_for deviation.WholeFloat name d = integer_for (get name d)
change_for deviation.UnknownTransport name d = without_unknown_in (get name d)
change_for deviation.NullOutputs name d = become_if (is_null_member (get name d)) (object no_members)
change_for deviation.RenamedOutputs name d = option_map become (if_absent (get name d) (get (codes "extensions") d))
change_for deviation.NoAuthenticatorData name d =
    option_map become_auth_data (if_absent (get name d) (registration_in (get (codes "attestationObject") d)))
change_for deviation.NoKeyAlgorithm name d =
    option_map become_algorithm (if_absent (get name d) (registration_in (get (codes "attestationObject") d)))
