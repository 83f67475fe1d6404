-- Data items of which no table is known, COSE keys and authenticator data, described.
use Rattle.std.specs.Prelude.{ℕ, pos, negsuc, ◌^◌, ◌&&◌, ◌||◌, false, List, [], ◌∷◌, ◌++◌, map, Bool, if◌then◌else◌, Option, Some, None, option_map, codes, unwrap_or}
use Rattle.std.specs.Borrow.{Bor}
use Rattle.std.specs.Str.{bytes_eq}
use Rattle.passkey_cbor.specs.Item as item
use Rattle.passkey_cbor.specs.Item.{Item, Items, Pairs, no_items, no_pairs, pair, number, byte_string, text_string, array, members}
use Rattle.passkey_cbor.specs.Same.{item_eq}
use Rattle.passkey_cbor.specs.View.{item_of}
use Rattle.passkey_cbor.specs.declared.value.Value.{Value}
use Rattle.passkey_core.specs.DataFlags.{has_flag}
use Rattle.passkey_core.specs.DataParts.{AttestedParts, DataParts}
use Rattle.passkey_cose.specs.KeyParts.{key_item}
use Rattle.passkey_cose.specs.KeyLabels.{Members, is_label}
use Rattle.passkey_explain.specs.Described.{Described, Label, Part, Parts, leaf, parts, no_parts, part, parts_from, list, map_of, record_of_members, element, key, member, unknown, labelled, label_of, described_of}
use Rattle.passkey_explain.specs.declared.description.Description.{Description}
use Rattle.passkey_explain.specs.declared.description.FieldName.{FieldName}
use Rattle.passkey_kinds.specs.declared.wanted.Wanted.{Wanted}
use Rattle.passkey_kinds.specs.declared.wanted.Wanted.TheVariants as wanted

-- ---- data items

-- what is wanted after a map key of attestation statements (WebAuthn Level 3, section 8)
abbrev pub wanted_by : Item → Wanted
wanted_by (text_string s) = if bytes_eq s (codes "alg") then wanted.Algorithm else wanted.Any
wanted_by _ = wanted.Any

abbrev mutual
  pub described_item : Wanted → Item → Described
  described_item w (array xs) = parts list (described_elements xs)
  described_item w (item.map ps) = parts map_of (described_pairs ps)
  described_item w i = leaf w i

  pub described_elements : Items → Parts
  described_elements no_items = no_parts
  described_elements (item.item x xs) = part element (described_item wanted.Any x) (described_elements xs)

  pub described_pairs : Pairs → Parts
  described_pairs no_pairs = no_parts
  described_pairs (pair k v ps) = part (key k) (described_item (wanted_by k) v) (described_pairs ps)

-- ---- COSE keys

-- the label -1 - n
abbrev pub is_negative : ℕ → Item → Bool
is_negative n label = item_eq label (number (negsuc n))

-- the type of a key, as the code has it
abbrev pub type_of : Option (Bor Value) → Option Item
type_of kty = option_map (λ (v : Bor Value). item_of v.now) kty

-- The key has this type.
abbrev pub has_type : ℕ → Option Item → Bool
has_type n (Some i) = is_label n i
has_type n None = false

abbrev pub has_curve : Option Item → Bool
has_curve kty = has_type 1 kty || has_type 2 kty

-- the parameters -1, -2 and -3 of a key of this type, as IANA's registry of COSE key type parameters has them
abbrev pub first_parameter : Option Item → Option (List ℕ)
first_parameter kty =
    if has_curve kty then Some (codes "crv") else (
    if has_type 3 kty then Some (codes "n") else (
    if has_type 4 kty then Some (codes "k") else (
    if has_type 5 kty || has_type 7 kty then Some (codes "pub") else None)))

abbrev pub second_parameter : Option Item → Option (List ℕ)
second_parameter kty =
    if has_curve kty then Some (codes "x") else (if has_type 3 kty then Some (codes "e") else None)

-- the name of a parameter of a key of this type (RFC 9052, section 7; RFC 9053, section 7; RFC 8230,
-- section 4; RFC 8778, section 3)
abbrev pub parameter_name : Option Item → Item → Option (List ℕ)
parameter_name kty i =
    if is_label 1 i then Some (codes "kty") else (
    if is_label 2 i then Some (codes "kid") else (
    if is_label 3 i then Some (codes "alg") else (
    if is_label 4 i then Some (codes "key_ops") else (
    if is_label 5 i then Some (codes "Base IV") else (
    if is_negative 0 i then first_parameter kty else (
    if is_negative 1 i then second_parameter kty else (
    if is_negative 2 i && has_type 2 kty then Some (codes "y") else None)))))))

-- the name of a key type, as IANA's registry of COSE key types has it (RFC 9053, section 7; RFC 8230,
-- section 4; RFC 8778, section 3)
abbrev pub key_type_name : Item → Option (List ℕ)
key_type_name i =
    if is_label 1 i then Some (codes "OKP") else (
    if is_label 2 i then Some (codes "EC2") else (
    if is_label 3 i then Some (codes "RSA") else (
    if is_label 4 i then Some (codes "Symmetric") else (
    if is_label 5 i then Some (codes "HSS-LMS") else (
    if is_label 7 i then Some (codes "AKP") else None)))))

-- the name of an elliptic curve (RFC 9053, section 7.1; RFC 8812, section 3.1)
abbrev pub curve_name : Item → Option (List ℕ)
curve_name i =
    if is_label 1 i then Some (codes "P-256") else (
    if is_label 2 i then Some (codes "P-384") else (
    if is_label 3 i then Some (codes "P-521") else (
    if is_label 4 i then Some (codes "X25519") else (
    if is_label 5 i then Some (codes "X448") else (
    if is_label 6 i then Some (codes "Ed25519") else (
    if is_label 7 i then Some (codes "Ed448") else (
    if is_label 8 i then Some (codes "secp256k1") else None)))))))

-- the name, or the item where there is none
abbrev pub named_or : Option (List ℕ) → Item → Described
named_or (Some name) i = leaf wanted.Name (text_string name)
named_or None i = described_item wanted.Any i

-- key types and curves by their names, and algorithms as such
abbrev pub described_parameter : Option Item → Item → Item → Described
described_parameter kty label i =
    if is_label 1 label then named_or (key_type_name i) i else (
    if is_label 3 label then leaf wanted.Algorithm i else (
    if is_negative 0 label && has_curve kty then named_or (curve_name i) i else described_item wanted.Any i))

abbrev pub label_for : Option (List ℕ) → Item → Label
label_for (Some name) i = member 0 name
label_for None i = unknown i

abbrev pub described_member : Option Item → Item → Item → Part
described_member kty label i =
    labelled (label_for (parameter_name kty label) label) (described_parameter kty label i)

-- the key's type: the value of its first parameter 1
abbrev pub type_in : Members → Option Item
type_in [] = None
type_in (m ∷ ms) = if is_label 1 m.0 then Some m.1 else type_in ms

abbrev pub described_key : Item → Described
described_key (item.map ps) = parts record_of_members
    (parts_from (map (λ m. described_member (type_in (members ps)) m.0 m.1) (members ps)))
described_key i = described_item wanted.Any i

-- ---- authenticator data

-- the part that the code's description of a member is
abbrev pub field_of : FieldName × Description → Part
field_of p = labelled (label_of p.0) (described_of p.1)

abbrev pub flag_part : Bool → List ℕ → List Described
flag_part is_set name = if is_set then leaf wanted.Name (text_string name) ∷ [] else []

-- the abbreviations of the flags that are set (WebAuthn Level 3, section 6.1)
abbrev pub flag_names : ℕ → List Described
flag_names flags =
    flag_part (has_flag 1 flags) (codes "UP") ++ (flag_part (has_flag 4 flags) (codes "UV")
    ++ (flag_part (has_flag 8 flags) (codes "BE") ++ (flag_part (has_flag 16 flags) (codes "BS")
    ++ (flag_part (has_flag 64 flags) (codes "AT") ++ flag_part (has_flag 128 flags) (codes "ED")))))

abbrev pub described_flags : ℕ → Described
described_flags flags = parts list (parts_from (map (λ d. labelled element d) (flag_names flags)))

-- no counter is the counter 0
abbrev pub counter_leaf : Option ℕ → Described
counter_leaf counter = leaf (wanted.Below (2 ^ 32)) (number (pos (unwrap_or counter 0)))

abbrev pub fixed_part : DataParts → List Part
fixed_part d =
    labelled (member 0 (codes "rpIdHash")) (leaf (wanted.SizedBytes 32) (byte_string d.rp_id_hash))
    ∷ labelled (member 0 (codes "flags")) (described_flags d.flags)
    ∷ labelled (member 0 (codes "signCount")) (counter_leaf d.counter) ∷ []

abbrev pub attested_part : AttestedParts → List Part
attested_part a =
    labelled (member 0 (codes "aaguid")) (leaf (wanted.ByteString 16) (byte_string a.aaguid))
    ∷ labelled (member 0 (codes "credentialId")) (leaf wanted.Bytes (byte_string a.credential_id))
    ∷ labelled (member 0 (codes "credentialPublicKey")) (described_key (key_item a.key)) ∷ []

abbrev pub extensions_part : Item → List Part
extensions_part i = labelled (member 0 (codes "extensions")) (described_item wanted.Any i) ∷ []

abbrev pub if_present : {A : Type 0} → (A → List Part) → Option A → List Part
if_present of (Some x) = of x
if_present of None = []

abbrev pub described_data : DataParts → Described
described_data d = parts record_of_members
    (parts_from (fixed_part d ++ (if_present attested_part d.attested ++ if_present extensions_part d.extensions)))
