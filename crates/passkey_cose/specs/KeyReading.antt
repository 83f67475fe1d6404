-- The key that a data item represents (RFC 9052, section 7).
use Rattle.std.specs.Prelude.{ℕ, ℤ, not, if◌then◌else◌, List, [], option_map, Option, Some, None, unwrap_or, Result, Ok, Err}
use Rattle.std.specs.List.{filter, filter_map, find}
use Rattle.std.specs.Option.{option_and_then}
use Rattle.std.specs.Result.{result_map_both}
use Rattle.passkey_cbor.specs.Item.{Item, number, byte_string, text_string, array, map, elements, members}
use Rattle.passkey_iana.specs.Iana.{algorithm_named, key_type_named, key_operation_named}
use Rattle.passkey_iana.specs.Signed64.{is_signed_64}
use Rattle.passkey_cose.specs.KeyFaults.{first_fault}
use Rattle.passkey_cose.specs.KeyLabels.{Members, is_label, is_common}
use Rattle.passkey_cose.specs.KeyParts.{KeyParts}
use Rattle.passkey_cose.specs.Registered.{Named, assigned, other, text}
use Rattle.passkey_cose.specs.declared.error.CoseError.{CoseError}
use Rattle.passkey_cose.specs.declared.error.CoseError.TheVariants.{UnexpectedItem}
use Rattle.passkey_iana.specs.declared.key_operation.KeyOperation.{KeyOperation}
use Rattle.passkey_iana.specs.declared.key_type.KeyType.{KeyType}
use Rattle.passkey_iana.specs.declared.key_type.KeyType.TheVariants.{Reserved}

abbrev pub assigned_or_other : {T : Type 0} → ℤ → Option T → Named T
assigned_or_other z (Some a) = assigned a
assigned_or_other z None = other z

abbrev pub name_in : {T : Type 0} → (ℤ → Option T) → Item → Option (Named T)
name_in named (number z) = if is_signed_64 z then Some (assigned_or_other z (named z)) else None
name_in named (text_string s) = Some (text s)
name_in named _ = None

abbrev pub bytes_in : Item → Option (List ℕ)
bytes_in (byte_string s) = Some s
bytes_in _ = None

abbrev pub ops_in : Item → List (Named KeyOperation)
ops_in (array xs) = filter_map (name_in key_operation_named) (elements xs)
ops_in _ = []

-- the value of the member with a common label
abbrev pub under : ℕ → Members → Option Item
under n ms = option_map (λ (m : Item × Item). m.1) (find (λ (m : Item × Item). is_label n m.0) ms)

abbrev pub further : Members → Members
further ms = filter (λ (m : Item × Item). not (is_common m.0)) ms

-- the key of this type, with its other parts from the members
abbrev pub key_from : Members → Named KeyType → KeyParts
key_from ms kty = record {
  kty = kty;
  key_id = option_and_then bytes_in (under 2 ms);
  alg = option_and_then (name_in algorithm_named) (under 3 ms);
  key_ops = unwrap_or (option_map ops_in (under 4 ms)) [];
  base_iv = option_and_then bytes_in (under 5 ms);
  params = further ms;
}

-- a key must have a type, which must not be the reserved one
abbrev pub key_type : Option (Named KeyType) → Result (Named KeyType) CoseError
key_type None = Err UnexpectedItem
key_type (Some (assigned Reserved)) = Err UnexpectedItem
key_type (Some kty) = Ok kty

-- the error in the members, or else their key
abbrev pub key_or_fault : Members → Option CoseError → Result KeyParts CoseError
key_or_fault ms (Some e) = Err e
key_or_fault ms None =
    result_map_both (key_from ms) (λ e. e) (key_type (option_and_then (name_in key_type_named) (under 1 ms)))

abbrev pub read_key : Item → Result KeyParts CoseError
read_key (map ps) = key_or_fault (members ps) (first_fault [] (members ps))
read_key _ = Err UnexpectedItem
