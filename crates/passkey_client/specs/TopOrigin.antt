-- The origin of the top-level page, another member of client data (WebAuthn Level 3, section 5.8.1).
use Rattle.std.specs.Prelude.{◌≡◌, ℕ, Bool, true, List, Option, Some, None, codes, refl}
use Rattle.std.specs.Str.{bytes_eq}
use Rattle.passkey_webauthn_json.specs.client_data.ExtraData.{are_extra}
use Rattle.serde_json.specs.Data.{Members, no_members, member, string}

abbrev pub is_top_origin : List ℕ → Bool
is_top_origin name = bytes_eq name (codes "topOrigin")

-- the members that the origin is encoded as
abbrev pub origin_members : Option (List ℕ) → Members
origin_members (Some origin) = member (codes "topOrigin") (string origin) no_members
origin_members None = no_members

pub origin_members_are_extra : (origin : Option (List ℕ)) → are_extra is_top_origin (origin_members origin) ≡ true
origin_members_are_extra (Some origin) = refl
origin_members_are_extra None = refl
