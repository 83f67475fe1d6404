-- The other members of client data, which the caller's type knows.
use Rattle.std.specs.Prelude.{◌≡◌, ℕ, Bool, true, ◌&&◌, ◌||◌, not, List, Some, Result, Ok, codes}
use Rattle.std.specs.Str.{bytes_eq}
use Rattle.passkey_webauthn_json.specs.client_data.ClientDataType.{client_data_types}
use Rattle.passkey_webauthn_json.specs.client_data.MemberLists.{has_name}
use Rattle.passkey_webauthn_json.specs.declared.client_data.client_data_type.ClientDataType.{ClientDataType}
use Rattle.passkey_webauthn.specs.Names.{value_in}
use Rattle.passkey_json.specs.Fault.{Fault}
use Rattle.passkey_json.specs.Members.{Object}
use Rattle.serde_json.specs.Data.{boolean, string, Members, no_members, member}
use Rattle.serde_json.specs.Find.{get_member}

-- whether it is the name of a member that all client data has
abbrev pub is_fixed : List ℕ → Bool
is_fixed name = bytes_eq name (codes "type") || bytes_eq name (codes "challenge") || bytes_eq name (codes "origin")
    || bytes_eq name (codes "crossOrigin")

-- whether it is unknown: neither the name of a member that all client data has, nor one that the
-- caller's type knows
abbrev pub is_unknown : (List ℕ → Bool) → List ℕ → Bool
is_unknown has name = not (is_fixed name) && not (has name)

-- whether each name is one that the caller's type knows, none is that of a member that all client
-- data has, and none occurs twice
abbrev pub are_extra : (List ℕ → Bool) → Members → Bool
are_extra has no_members = true
are_extra has (member name d ms) = has name && not (is_fixed name) && not (has_name name ms) && are_extra has ms

-- ---- client data without other members

-- the members that all client data has, ordered by name
abbrev pub fixed_alone : List ℕ → List ℕ → List ℕ → Bool → Members
fixed_alone type_name challenge origin cross_origin =
    member (codes "challenge") (string challenge) (member (codes "crossOrigin") (boolean cross_origin)
    (member (codes "origin") (string origin) (member (codes "type") (string type_name) no_members)))

-- The value that client data of these members alone is decoded to, whatever they are.
abbrev pub IsWithoutOthers : {E : Type 0} → (Object → Result E Fault) → E → Type 0
IsWithoutOthers reads x =
    (type_name challenge origin : List ℕ) (ty : ClientDataType) (cross_origin : Bool)
    → value_in client_data_types type_name ≡ Some ty
    → reads (λ name. get_member name (fixed_alone type_name challenge origin cross_origin)) ≡ Ok x
