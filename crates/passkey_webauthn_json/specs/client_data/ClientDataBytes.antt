-- Client data as the bytes of a JSON text.
use Rattle.std.specs.Prelude.{ℕ, List, Result, Err, ⊤}
use Rattle.passkey_webauthn_json.specs.declared.client_data.client_data_fault.ClientDataFault.{ClientDataFault}
use Rattle.passkey_webauthn_json.specs.declared.client_data.client_data_fault.ClientDataFault.TheVariants as data_fault
use Rattle.passkey_json.specs.Fault.{Fault, Gives}
use Rattle.passkey_json.specs.JsonText.{IsJson, HasNoJson}
use Rattle.passkey_json.specs.declared.json_fault.JsonFault.{JsonFault}
use Rattle.passkey_json.specs.declared.json_fault.JsonFault.TheVariants as json
use Rattle.serde_json.specs.Data.{Data}

-- The bytes are a JSON text, and `P` holds of its value.
pub record IsJsonOf (bytes : List ℕ) (P : Data → Type 0) : Type 0 where
  pub value : Data
  pub text : IsJson bytes value
  pub holds : P value

-- the fault of client data for a fault of its JSON value; `OutOfMemory` stays `OutOfMemory`
abbrev pub client_data_fault_of : JsonFault → ClientDataFault
client_data_fault_of json.OutOfMemory = data_fault.OutOfMemory
client_data_fault_of refusal = data_fault.Refused refusal

-- why no client data was decoded from the bytes; memory may run out for any bytes, and `Refused`
-- never has that fault
abbrev pub WhyNoClientData : {A : Type 0} → (Data → Result A Fault) → List ℕ → ClientDataFault → Type 0
WhyNoClientData wanted bytes data_fault.BadJson = HasNoJson bytes
WhyNoClientData wanted bytes (data_fault.Refused fault) = IsJsonOf bytes (λ d. Gives ⊥ (wanted d) (Err fault))
WhyNoClientData wanted bytes data_fault.OutOfMemory = ⊤
