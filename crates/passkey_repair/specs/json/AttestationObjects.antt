-- What an attestation object says about the new credential (WebAuthn Level 3, section 6.5.4).
use Rattle.std.specs.Prelude.{ℕ, ℤ, if◌then◌else◌, List, [], ◌∷◌, Bool, false, Option, Some, None, option_map, Result, Ok, Err, codes}
use Rattle.std.specs.Option.{option_and_then}
use Rattle.std.specs.Str.{bytes_eq}
use Rattle.passkey_cbor.specs.Item.{Item, map, members, text_string}
use Rattle.passkey_cbor.specs.LeadingItemAt.{leading_item_at}
use Rattle.passkey_core.specs.DataParts.{AttestedParts, DataParts}
use Rattle.passkey_core.specs.DataRead.{read_data}
use Rattle.passkey_cose.specs.KeyReading.{bytes_in}
use Rattle.passkey_cose.specs.Registered.{Named, assigned, other, text}
use Rattle.passkey_cose.specs.declared.error.CoseError.{CoseError}
use Rattle.passkey_iana.specs.Iana.{algorithm_number}
use Rattle.passkey_iana.specs.declared.algorithm.Algorithm.{Algorithm}
use Rattle.passkey_json.specs.Kind.{bytes}
use Rattle.passkey_repair.specs.declared.json.attestation_objects.Registration.{Registration}
use Rattle.serde_json.specs.Data.{Data}

-- ---- the algorithm of the new credential's key

abbrev pub number_of : Named Algorithm → Option ℤ
number_of (assigned a) = Some (algorithm_number a)
number_of (other z) = Some z
number_of (text s) = None

abbrev pub attested_algorithm : AttestedParts → Option ℤ
attested_algorithm a = option_and_then number_of a.key.alg

-- the algorithm in the authenticator data that the bytes decode to
abbrev pub algorithm_if_read : Result DataParts CoseError → Option ℤ
algorithm_if_read (Ok d) = option_and_then attested_algorithm d.attested
algorithm_if_read (Err e) = None

abbrev pub key_algorithm : List ℕ → Option ℤ
key_algorithm encoded = algorithm_if_read (read_data encoded)

-- ---- the authenticator data

abbrev pub is_auth_data : Item → Bool
is_auth_data (text_string s) = bytes_eq s (codes "authData")
is_auth_data _ = false

-- the byte string in the first member with the key `authData`
abbrev pub auth_data_among : List (Item × Item) → Option (List ℕ)
auth_data_among [] = None
auth_data_among (m ∷ ms) = if is_auth_data m.0 then bytes_in m.1 else auth_data_among ms

abbrev pub auth_data_of : Item → Option (List ℕ)
auth_data_of (map ps) = auth_data_among (members ps)
auth_data_of _ = None

-- ---- both

-- authenticator data, with the algorithm of the key in them
abbrev pub RegistrationParts : Type 0
RegistrationParts = List ℕ × ℤ

abbrev pub with_algorithm : List ℕ → Option RegistrationParts
with_algorithm encoded = option_map (λ z. (let r : RegistrationParts = (encoded, z) in r)) (key_algorithm encoded)

-- the data item that begins the bytes
abbrev pub item_at_front : List ℕ → Option Item
item_at_front object = option_map (λ (r : Item × List ℕ). r.0) (leading_item_at object)

abbrev pub registration_from : List ℕ → Option RegistrationParts
registration_from object = option_and_then with_algorithm (option_and_then auth_data_of (item_at_front object))

-- the same of an attestation object in base64url, as a member
abbrev pub registration_in : Option Data → Option RegistrationParts
registration_in member = option_and_then registration_from (option_and_then bytes member)

abbrev pub parts_of : Registration → RegistrationParts
parts_of r = (r.auth_data, r.algorithm)
