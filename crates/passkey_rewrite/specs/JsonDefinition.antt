-- What a JSON text is decoded as.
use Rattle.std.specs.Prelude.{ℕ, Bool, List, Option, Result}
use Rattle.passkey_json.specs.Fault.{Fault}
use Rattle.passkey_json.specs.Members.{Object}
use Rattle.passkey_json.specs.Table.{PlainTable}
use Rattle.passkey_json.specs.declared.bytes_form.BytesForm.{BytesForm}
use Rattle.serde_json.specs.Data.{Data, Members}

-- The record of a table; client data with members that the caller knows; or another object, by its kind, how it is
-- encoded, and what its fault names.
pub data JsonDefinition : Type 1 where
  json_record : {A : Type 0} → PlainTable A → JsonDefinition
  json_client_data : {E : Type 0} → (List ℕ → Bool) → (Object → Result E Fault) → (E → Members) → JsonDefinition
  json_object : {A : Type 0} → (Data → Option A) → (BytesForm → A → Data) → List ℕ → JsonDefinition
