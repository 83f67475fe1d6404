-- The output of decoding a JSON text and encoding the result.
use Rattle.std.specs.Option.{ok_or}
use Rattle.std.specs.Prelude.{◌≡◌, ℕ, Bool, List, if◌then◌else◌, Option, Result, Ok, Err, ⊤}
use Rattle.passkey_webauthn_json.specs.client_data.ClientData.{client_data}
use Rattle.passkey_webauthn_json.specs.client_data.ClientDataText.{client_data_text}
use Rattle.passkey_json.specs.Fault.{Fault, Gives, no_object, refused}
use Rattle.passkey_json.specs.JsonText.{IsJson, HasNoJson}
use Rattle.passkey_json.specs.Kind.{is_object}
use Rattle.passkey_json.specs.Members.{◌>>=◌, Object, in_object}
use Rattle.passkey_json.specs.Table.{PlainTable, members_in, table_json}
use Rattle.passkey_json.specs.declared.bytes_form.BytesForm.{BytesForm}
use Rattle.passkey_json.specs.declared.bytes_form.BytesForm.TheVariants.{Base64Url}
use Rattle.passkey_json.specs.declared.json_fault.JsonFault.{JsonFault}
use Rattle.passkey_json.specs.declared.json_fault.JsonFault.TheVariants as json
use Rattle.passkey_rewrite.specs.JsonDefinition.{JsonDefinition, json_client_data, json_object, json_record}
use Rattle.passkey_rewrite.specs.Kinds.{json_definition}
use Rattle.passkey_rewrite.specs.declared.fault.RunFault.{RunFault}
use Rattle.passkey_rewrite.specs.declared.fault.RunFault.TheVariants.{JsonRefused, BadJson, OutOfMemory}
use Rattle.passkey_rewrite.specs.declared.kind.JsonKind.{JsonKind}
use Rattle.serde_json.specs.Data.{Data, Members}
use Rattle.serde_json.specs.Written.{compact_text}

-- the compact JSON text of the record that the value decodes to, with bytes in base64url
abbrev pub record_rewritten : {A : Type 0} → (Object → Result A Fault) → (BytesForm → A → Data) → Data
    → Result (List ℕ) Fault
record_rewritten members json d = in_object members d >>= λ x. Ok (compact_text (json Base64Url x))

-- the same for a record of this table
abbrev pub table_rewritten : {A : Type 0} → PlainTable A → Data → Result (List ℕ) Fault
table_rewritten t = record_rewritten (members_in t) (table_json t)

-- the JSON text of the client data that the value decodes to, where the caller knows other members
abbrev pub client_data_rewritten : {E : Type 0} → (List ℕ → Bool) → (Object → Result E Fault) → (E → Members) → Data
    → Result (List ℕ) Fault
client_data_rewritten has reads written d = client_data has reads d >>= client_data_text written

-- the object that the value is as a type with this kind, or the fault that this is refused
abbrev pub object_in : {A : Type 0} → (Data → Option A) → List ℕ → Data → Result A Fault
object_in kind name d = if is_object d then ok_or (kind d) (refused name) else Err no_object

-- the compact JSON text of that object, with bytes in base64url
abbrev pub object_rewritten : {A : Type 0} → (Data → Option A) → (BytesForm → A → Data) → List ℕ → Data
    → Result (List ℕ) Fault
object_rewritten kind json name d = object_in kind name d >>= λ x. Ok (compact_text (json Base64Url x))

-- the output for a JSON value, by what it is decoded as
abbrev pub rewritten_as : JsonDefinition → Data → Result (List ℕ) Fault
rewritten_as (json_record t) = table_rewritten t
rewritten_as (json_client_data has reads written) = client_data_rewritten has reads written
rewritten_as (json_object kind json name) = object_rewritten kind json name

-- the output of each kind for a JSON value
unfoldable pub json_rewritten : JsonKind → Data → Result (List ℕ) Fault
json_rewritten kind = rewritten_as (json_definition kind)

-- The input is a JSON text, and this is the output for its value.
pub record RewritesJson (rewritten : Data → Result (List ℕ) Fault) (input text : List ℕ) : Type 0 where
  pub value : Data
  pub reads : IsJson input value
  pub made : rewritten value ≡ Ok text

-- The input is a JSON text, and its value is rejected with this fault.
pub record IsRefusedJson (rewritten : Data → Result (List ℕ) Fault) (input : List ℕ) (fault : JsonFault) : Type 0
  where
    pub value : Data
    pub reads : IsJson input value
    pub told : Gives ⊥ (rewritten value) (Err fault)

-- the same, for a fault other than running out of memory
abbrev pub RefusesJson : (Data → Result (List ℕ) Fault) → List ℕ → JsonFault → Type 0
RefusesJson rewritten input json.OutOfMemory = ⊥
RefusesJson rewritten input fault = IsRefusedJson rewritten input fault

-- why there is no output for an input; memory may run out for any input
abbrev pub IsJsonRefusal : (Data → Result (List ℕ) Fault) → List ℕ → RunFault → Type 0
IsJsonRefusal rewritten input (JsonRefused fault) = RefusesJson rewritten input fault
IsJsonRefusal rewritten input BadJson = HasNoJson input
IsJsonRefusal rewritten input OutOfMemory = ⊤
IsJsonRefusal rewritten input _ = ⊥
