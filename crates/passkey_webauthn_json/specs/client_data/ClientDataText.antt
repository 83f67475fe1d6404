-- The JSON text that client data is encoded as (WebAuthn Level 3, section 5.8.1.1).
use Rattle.std.specs.Prelude.{ℕ, ◌==◌, nat_lt, Bool, ◌||◌, not, List, [], ◌∷◌, ◌++◌, false, unwrap_or, Result, Ok, codes}
use Rattle.passkey_webauthn_json.specs.client_data.ClientData.{ClientData}
use Rattle.passkey_webauthn_json.specs.client_data.ClientDataType.{client_data_type_name}
use Rattle.passkey_webauthn_json.specs.client_data.MemberLists.{joined, without_floats}
use Rattle.passkey_json.specs.Fault.{Fault}
use Rattle.passkey_json.specs.Members.{◌>>=◌}
use Rattle.serde_json.specs.Data.{Data, boolean, string, object, Members, no_members, member}
use Rattle.serde_json.specs.Written.{compact_text}

module _ {E : Type 0} where
  -- the members that all client data has, and then these
  abbrev pub with_fixed : ClientData E → Members → Members
  with_fixed x ms =
      member (codes "type") (string (client_data_type_name x.ty))
      (member (codes "challenge") (string x.challenge)
      (member (codes "origin") (string x.origin)
      (member (codes "crossOrigin") (boolean (unwrap_or x.cross_origin false))
      ms)))

  -- the object of the fixed members, those of the caller's value and the unknown ones, in this
  -- order, without white space
  unfoldable pub client_data_text : (E → Members) → ClientData E → Result (List ℕ) Fault
  client_data_text written x = do
    extra_members ← without_floats (codes "extra_data") (written x.extra_data)
    unknown_keys ← without_floats (codes "unknown_keys") x.unknown_keys
    Ok (compact_text (object (with_fixed x (joined extra_members unknown_keys))))

-- ---- for private clauses

-- whether a JSON string has the character as it is, without an escape (RFC 8259, section 7)
abbrev pub is_plain : ℕ → Bool
is_plain x = not (nat_lt x 32 || (x == 34) || (x == 92))

-- a name after another member, with the comma and the colon
abbrev pub name_text : List ℕ → List ℕ
name_text name = 44 ∷ (compact_text (string name) ++ 58 ∷ [])

-- the text of a member that follows another one
abbrev pub member_text : List ℕ → Data → List ℕ
member_text name d = 44 ∷ (compact_text (string name) ++ 58 ∷ compact_text d)

-- the text of members that follow another one
abbrev pub later_text : Members → List ℕ
later_text no_members = []
later_text (member name d ms) = member_text name d ++ later_text ms

-- the text of the fixed members, with the opening brace
abbrev pub fixed_text : {E : Type 0} → ClientData E → List ℕ
fixed_text x =
    codes "{\"type\":" ++ compact_text (string (client_data_type_name x.ty))
    ++ member_text (codes "challenge") (string x.challenge)
    ++ member_text (codes "origin") (string x.origin)
    ++ member_text (codes "crossOrigin") (boolean (unwrap_or x.cross_origin false))
