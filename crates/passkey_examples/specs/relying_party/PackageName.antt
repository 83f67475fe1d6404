-- The member of client data that this relying party knows beside the fixed ones.
use Rattle.std.specs.Prelude.{◌≡◌, ℕ, Bool, true, List, Option, Some, None, codes, refl}
use Rattle.std.specs.Str.{bytes_eq}
use Rattle.passkey_webauthn_json.specs.client_data.ExtraData.{are_extra}
use Rattle.serde_json.specs.Data.{Members, no_members, member, string}

abbrev pub is_package_name : List ℕ → Bool
is_package_name name = bytes_eq name (codes "androidPackageName")

-- the members that the name is encoded as
abbrev pub name_members : Option (List ℕ) → Members
name_members (Some name) = member (codes "androidPackageName") (string name) no_members
name_members None = no_members

pub name_members_are_extra : (name : Option (List ℕ)) → are_extra is_package_name (name_members name) ≡ true
name_members_are_extra (Some name) = refl
name_members_are_extra None = refl
