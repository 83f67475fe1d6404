-- What in a data item isn't as in a COSE key (RFC 9052, section 7).
use Rattle.std.specs.Prelude.{◌≡◌, ◌+◌, ℕ, ℤ, List, [], ◌∷◌, ◌++◌, if◌then◌else◌, Option, Some, None, option_map, Result, Ok, Err, IsOk}
use Rattle.std.specs.List.{list_any}
use Rattle.std.specs.Option.{option_or}
use Rattle.passkey_cbor.specs.Item.{Item, number, map, members}
use Rattle.passkey_cbor.specs.Same.{item_eq}
use Rattle.passkey_iana.specs.Iana.{key_type_named}
use Rattle.passkey_iana.specs.Signed64.{is_signed_64}
use Rattle.passkey_cose.specs.KeyFaults.{name_fault, value_fault}
use Rattle.passkey_cose.specs.KeyLabels.{Members, is_label}
use Rattle.passkey_cose.specs.KeyParts.{KeyParts}
use Rattle.passkey_cose.specs.KeyReading.{key_type, name_in}
use Rattle.passkey_cose.specs.Seen.{labels_of}
use Rattle.passkey_cose.specs.declared.error.CoseError.{CoseError}
use Rattle.passkey_cose.specs.declared.error.CoseError.TheVariants.{DuplicateMapKey, UnexpectedItem}
use Rattle.passkey_explain.specs.Blame.{Step, value, key}
use Rattle.passkey_explain_data.specs.declared.key.KeyBlame.{KeyBlame}
use Rattle.passkey_explain_data.specs.declared.key.KeyBlame.TheVariants.{NotAMap, NoType, Label, Value}
use Rattle.passkey_explain_data.specs.declared.key.KeyRefusal.{KeyRefusal}

abbrev pub refused : Option ℤ → CoseError → KeyBlame → KeyRefusal
refused kty e b = record { fault = e; blame = b; key_type = kty }

-- the number of a label or of a key type, if it has 64 signed bits
abbrev pub number_in : Item → Option ℤ
number_in (number z) = if is_signed_64 z then Some z else None
number_in _ = None

-- the number of the key type
abbrev pub type_number : Members → Option ℤ
type_number [] = None
type_number (m ∷ ms) = if is_label 1 m.0 then number_in m.1 else type_number ms

-- the error of a label or an operation: its own, or that it repeats one of those before
abbrev pub name_fault_after : CoseError → List Item → Item → Option CoseError
name_fault_after repeated names i =
    option_or (name_fault i) (if list_any (item_eq i) names then Some repeated else None)

-- what of a pair is to blame, with n pairs before it: its label, or else its value
abbrev pub pair_blame : Option ℤ → ℕ → Members → Item × Item → Option KeyRefusal
pair_blame kty n earlier m =
    option_or
    (option_map (λ e. refused kty e (Label n (number_in m.0)))
    (name_fault_after DuplicateMapKey (labels_of earlier) m.0))
    (option_map (λ e. refused kty e (Value n (number_in m.0))) (value_fault m.0 m.1))

-- what of the first bad pair is to blame, with n pairs before these
abbrev pub pairs_blame : Option ℤ → ℕ → Members → Members → Option KeyRefusal
pairs_blame kty n earlier [] = None
pairs_blame kty n earlier (m ∷ ms) =
    option_or (pair_blame kty n earlier m) (pairs_blame kty (n + 1) (earlier ++ m ∷ []) ms)

abbrev pub error_in : {X : Type 0} → Result X CoseError → Option CoseError
error_in (Ok x) = None
error_in (Err e) = Some e

-- the error of the data item as a key type
abbrev pub type_fault : Item → Option CoseError
type_fault i = error_in (key_type (name_in key_type_named i))

-- the map, which has no key type, or a key type that is to blame, with n pairs before these
abbrev pub type_blame : Option ℤ → ℕ → Members → Option KeyRefusal
type_blame kty n [] = Some (refused kty UnexpectedItem NoType)
type_blame kty n (m ∷ ms) =
    if is_label 1 m.0 then option_map (λ e. refused kty e (Value n (number_in m.0))) (type_fault m.1)
    else type_blame kty (n + 1) ms

-- the first bad pair; or else the key type
abbrev pub members_blame : Members → Option KeyRefusal
members_blame ms = option_or (pairs_blame (type_number ms) 0 [] ms) (type_blame (type_number ms) 0 ms)

-- what in a data item is to blame that is no key
abbrev pub key_blame : Item → Option KeyRefusal
key_blame (map ps) = members_blame (members ps)
key_blame _ = Some (refused None UnexpectedItem NotAMap)

-- The data item is a key exactly if nothing is to blame, and else the refusal has the error.
abbrev pub IsVerdict : Result KeyParts CoseError → Option KeyRefusal → Type 0
IsVerdict read None = IsOk read
IsVerdict read (Some r) = read ≡ Err r.fault

-- the steps from the data item to what is to blame
abbrev pub key_path : KeyBlame → List Step
key_path NotAMap = []
key_path NoType = []
key_path (Label n label) = key n ∷ []
key_path (Value n label) = value n ∷ []
