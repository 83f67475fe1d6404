-- What an input of each kind is.
use Rattle.std.specs.Prelude.{false, Ok}
use Rattle.passkey_extensions.specs.HmacInput.{hmac_input_fields, hmac_input_tree}
use Rattle.passkey_ctap2.specs.GetRequest.{get_request_fields, get_request_tree}
use Rattle.passkey_ctap2.specs.GetResponse.{get_response_fields, get_response_tree}
use Rattle.passkey_ctap2.specs.GetInfo.{get_info_fields, get_info_tree}
use Rattle.passkey_ctap2.specs.MakeRequest.{make_request_fields, make_request_tree}
use Rattle.passkey_ctap2.specs.MakeResponse.{make_response_fields, make_response_tree}
use Rattle.passkey_rewrite.specs.Definition.{Definition, authenticator, item, message}
use Rattle.passkey_rewrite.specs.JsonDefinition.{JsonDefinition, json_client_data, json_record}
use Rattle.passkey_rewrite.specs.declared.kind.BytesKind.{BytesKind}
use Rattle.passkey_rewrite.specs.declared.kind.BytesKind.TheVariants as kind
use Rattle.passkey_rewrite.specs.declared.kind.JsonKind.{JsonKind}
use Rattle.passkey_rewrite.specs.declared.kind.JsonKind.TheVariants as json
use Rattle.passkey_webauthn_json.specs.credentials.Credentials.{assertion_response, attestation_response, credential}
use Rattle.passkey_webauthn_json.specs.options.Options.{credential_creation, credential_request}
use Rattle.serde_json.specs.Data.{no_members}

abbrev pub bytes_definition : {O : Type 0} → BytesKind → Definition O
bytes_definition kind.Cbor = item
bytes_definition kind.Auth = authenticator
bytes_definition kind.MakeRequest = message make_request_fields make_request_tree
bytes_definition kind.MakeResponse = message make_response_fields make_response_tree
bytes_definition kind.GetRequest = message get_request_fields get_request_tree
bytes_definition kind.GetResponse = message get_response_fields get_response_tree
bytes_definition kind.Info = message get_info_fields get_info_tree
bytes_definition kind.HmacInput = message hmac_input_fields hmac_input_tree

abbrev pub json_definition : JsonKind → JsonDefinition
json_definition json.Creation = json_record credential_creation
json_definition json.Request = json_record credential_request
json_definition json.Created = json_record (credential attestation_response)
json_definition json.Authenticated = json_record (credential assertion_response)
json_definition json.ClientData = json_client_data {E = Unit {0}} (λ _. false) (λ _. Ok tt) (λ _. no_members)
