-- The exit status of each fault, and its line on standard error.
use Rattle.std.specs.Prelude.{ℕ, List, Option, Some, codes}
use Rattle.passkey_cose.specs.CoseErrors.{cose_error_name}
use Rattle.passkey_cose.specs.declared.error.CoseError.{CoseError}
use Rattle.passkey_cose.specs.declared.error.CoseError.TheVariants as error
use Rattle.passkey_json.specs.Names.{json_fault_name}
use Rattle.passkey_json.specs.declared.json_fault.JsonFault.{JsonFault}
use Rattle.passkey_json.specs.declared.json_fault.JsonFault.TheVariants as json
use Rattle.passkey_kinds.specs.Message.{fault_name}
use Rattle.passkey_kinds.specs.declared.fault.Fault.{Fault}
use Rattle.passkey_kinds.specs.declared.fault.Fault.TheVariants as message
use Rattle.passkey_webauthn_json.specs.declared.client_data.client_data_fault.ClientDataFault.{ClientDataFault}
use Rattle.passkey_webauthn_json.specs.declared.client_data.client_data_fault.ClientDataFault.TheVariants as client_data
use Rattle.passkey_rewrite.specs.declared.fault.RunFault.{RunFault}
use Rattle.passkey_rewrite.specs.declared.fault.RunFault.TheVariants.{Refused, MessageRefused, JsonRefused, BadHex, BadJson, UnknownKind, OutOfMemory, InputFailed, OutputFailed}

abbrev pub status_of : RunFault → ℕ
status_of (Refused refusal) = 1
status_of (MessageRefused fault) = 1
status_of (JsonRefused fault) = 1
status_of BadHex = 1
status_of BadJson = 1
status_of UnknownKind = 2
status_of OutOfMemory = 3
status_of InputFailed = 4
status_of OutputFailed = 4

-- the line, without its line feed
abbrev pub line_of : RunFault → Option (List ℕ)
line_of (Refused refusal) = Some (cose_error_name refusal)
line_of (MessageRefused fault) = Some (fault_name fault)
line_of (JsonRefused fault) = json_fault_name fault
line_of BadHex = Some (codes "BadHex")
line_of BadJson = Some (codes "BadJson")
line_of UnknownKind = Some (codes "unknown kind")
line_of OutOfMemory = Some (codes "OutOfMemory")
line_of InputFailed = Some (codes "input failed")
line_of OutputFailed = Some (codes "output failed")

-- the fault for an error of the library; running out of memory isn't a rejection
abbrev pub fault_of : CoseError → RunFault
fault_of error.OutOfMemory = OutOfMemory
fault_of refusal = Refused refusal

-- the same for the fault of a message
abbrev pub message_fault_of : Fault → RunFault
message_fault_of message.OutOfMemory = OutOfMemory
message_fault_of refusal = MessageRefused refusal

-- the same for the fault of a JSON value
abbrev pub json_fault_of : JsonFault → RunFault
json_fault_of json.OutOfMemory = OutOfMemory
json_fault_of refusal = JsonRefused refusal

-- the same for the fault of client data
abbrev pub client_data_fault_of : ClientDataFault → RunFault
client_data_fault_of client_data.BadJson = BadJson
client_data_fault_of client_data.OutOfMemory = OutOfMemory
client_data_fault_of (client_data.Refused fault) = json_fault_of fault
