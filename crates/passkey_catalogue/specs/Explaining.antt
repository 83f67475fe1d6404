-- What is said of a JSON value: that it is decoded as its kind, or why it isn't.
use Rattle.std.specs.Prelude.{◌≡◌, true, is_ok, Option, None, Some, option_map}
use Rattle.passkey_catalogue.specs.declared.explaining.RefusedJson.{RefusedJson}
use Rattle.passkey_explain_json.specs.Explains.{IsExplained}
use Rattle.passkey_json.specs.declared.blame.JsonBlame.{JsonBlame}
use Rattle.passkey_json.specs.Fault.{IsFaultOf}
use Rattle.passkey_json.specs.Members.{in_object}
use Rattle.passkey_json.specs.Table.{PlainTable, members_in}
use Rattle.passkey_json.specs.declared.json_fault.JsonFault.{JsonFault}
use Rattle.passkey_rewrite.specs.JsonDefinition.{JsonDefinition, json_client_data, json_object, json_record}
use Rattle.passkey_rewrite.specs.RewritesJson.{object_in}
use Rattle.passkey_webauthn_json.specs.client_data.ClientData.{client_data}
use Rattle.serde_json.specs.Data.{Data}

-- The record of this table is decoded, or decoding it has this fault, and this is to blame for it.
abbrev pub ExplainsRecord : {P : Type 0} → PlainTable P → Data → Option RefusedJson → Type 0
ExplainsRecord t d None = is_ok (in_object (members_in t) d) ≡ true
ExplainsRecord t d (Some r) = (b : JsonBlame) × (r.blame ≡ Some b) × IsExplained t d r.fault b

abbrev fault_told : Option RefusedJson → Option JsonFault
fault_told o = option_map (λ (r : RefusedJson). r.fault) o

-- The value is decoded, or decoding it has this fault.
abbrev pub ExplainsAs : JsonDefinition → Data → Option RefusedJson → Type 0
ExplainsAs (json_record t) d o = ExplainsRecord t d o
ExplainsAs (json_client_data has reads written) d o = IsFaultOf (client_data has reads d) (fault_told o)
ExplainsAs (json_object kind json name) d o = IsFaultOf (object_in kind name d) (fault_told o)
