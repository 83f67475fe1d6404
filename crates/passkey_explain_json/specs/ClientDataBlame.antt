-- What is to blame in a JSON value from which no client data is decoded (WebAuthn Level 3, section 5.8.1).
use Rattle.std.specs.Prelude.{◌≡◌, ◌&&◌, ℕ, Bool, true, false, not, if◌then◌else◌, List, [], ◌∷◌, Option, Some, None, Result, Ok, Err, is_ok}
use Rattle.passkey_webauthn_json.specs.client_data.ClientData.{ClientData, client_data, fixed_members}
use Rattle.passkey_webauthn_json.specs.client_data.ExtraData.{is_fixed}
use Rattle.passkey_json.specs.Along.{IsOnce, IsRefusedAt}
use Rattle.passkey_json.specs.Fault.{Fault, Gives}
use Rattle.passkey_json.specs.Members.{Object, in_object}
use Rattle.passkey_json.specs.Shape.{named}
use Rattle.passkey_json.specs.Table.{members_in, table_shape}
use Rattle.passkey_json.specs.declared.json_fault.JsonFault.{JsonFault}
use Rattle.passkey_json.specs.declared.wanted.WantedJson.TheVariants as want
use Rattle.serde_json.specs.Data.{Data, object, Members, no_members, member}
use Rattle.serde_json.specs.Written.{has_float}
use Rattle.passkey_json.specs.Blame.{Blames, path_of, reason_of, wanted}
use Rattle.passkey_json.specs.declared.blame.JsonBlame.{JsonBlame}
use Rattle.passkey_explain_json.specs.declared.explanation.JsonExplanation.{JsonExplanation}

-- client data of which the caller knows no other member
abbrev pub none_known : List ℕ → Bool
none_known name = false

abbrev pub nothing_read : Object → Result (Unit {0}) Fault
nothing_read o = Ok tt

abbrev pub plain_client_data : Data → Result (ClientData (Unit {0})) Fault
plain_client_data = client_data none_known nothing_read

abbrev pub is_client_data : Data → Bool
is_client_data d = is_ok (plain_client_data d)

-- the name of the first unknown member that contains a float
abbrev pub first_float : Members → Option (List ℕ)
first_float no_members = None
first_float (member name d ms) = if not (is_fixed name) && has_float d then Some name else first_float ms

abbrev pub unknown_float : Data → Option (List ℕ)
unknown_float (object ms) = first_float ms
unknown_float _ = None

-- the member with this name is to blame, which contains a float
abbrev pub IsFloatBlamed : Option (List ℕ) → JsonBlame → Type 0
IsFloatBlamed (Some name) b = (path_of b ≡ named name ∷ []) × (reason_of b.reason ≡ wanted want.NoFloat)
IsFloatBlamed None b = ⊥

-- The members that all client data has come first, and then the others.
abbrev pub IsBlamedOrFloat : Bool → Data → JsonBlame → Type 0
IsBlamedOrFloat true d b = IsFloatBlamed (unknown_float d) b
IsBlamedOrFloat false d b = Blames (table_shape fixed_members) d b

-- Decoding client data from the JSON value has this fault, and this is to blame for it: the path leads to a value in
-- the JSON value, and no client data is decoded from any JSON value in which it leads to that value.
pub record IsClientDataExplained (d : Data) (fault : JsonFault) (b : JsonBlame) : Type 0 where
  pub given : Gives ⊥ (plain_client_data d) (Err fault)
  pub blamed : IsBlamedOrFloat (is_ok (in_object (members_in fixed_members) d)) d b
  pub to_blame : IsOnce d → IsRefusedAt is_client_data d (path_of b)

-- The JSON value is decoded as client data, or explained.
abbrev pub ExplainsClientData : Data → Option JsonExplanation → Type 0
ExplainsClientData d None = is_client_data d ≡ true
ExplainsClientData d (Some e) = IsClientDataExplained d e.fault e.blame

-- The members that all client data has are there; then an unknown member with a float is explained, or there is none.
abbrev pub ExplainsUnknown : Data → Option JsonExplanation → Type 0
ExplainsUnknown d o = is_ok (in_object (members_in fixed_members) d) ≡ true → ExplainsClientData d o
