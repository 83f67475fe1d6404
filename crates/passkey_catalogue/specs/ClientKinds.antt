-- The kinds of JSON texts of a client, by their names, where they are defined, and what a text of each is.
use Rattle.std.specs.Prelude.{◌≡◌, ℕ, Bool, List, [], ◌∷◌, Some, codes, refl}
use Rattle.passkey_bytes.specs.Map.{ByteMap}
use Rattle.passkey_client.specs as client
use Rattle.passkey_client.specs.PaymentData.{is_payment, payment_in, payment_members}
use Rattle.passkey_client.specs.TopOrigin.{is_top_origin, origin_members}
use Rattle.passkey_json.specs.Coded.{Coded, map_value, truth_value}
use Rattle.passkey_json.specs.Kind.{text}
use Rattle.passkey_json.specs.Members.{if_present, member}
use Rattle.passkey_webauthn_json.specs.options.Options.{creation_options, request_options}
use Rattle.passkey_catalogue.specs.Rows.{Rows, names_of, own_source}
use Rattle.passkey_catalogue.specs.contracts.client_kind.ClientKind.{the_type}
use Rattle.passkey_catalogue.specs.declared.client_kind.ClientKind.{ClientKind}
use Rattle.passkey_catalogue.specs.declared.client_kind.ClientKind.TheVariants as kind
use Rattle.passkey_rewrite.specs.JsonDefinition.{JsonDefinition, json_client_data, json_object, json_record}
use Rattle.passkey_webauthn.specs.Names.{Names, own_name, value_in}

abbrev pub client_rows : Rows ClientKind
client_rows = (codes "signal-unknown", kind.UnknownCredential, codes "WebAuthn Level 3, section 5.1.10.2")
    ∷ (codes "signal-accepted", kind.AcceptedCredentials, codes "WebAuthn Level 3, section 5.1.10.3")
    ∷ (codes "signal-details", kind.UserDetails, codes "WebAuthn Level 3, section 5.1.10.4")
    ∷ (codes "client-inputs", kind.ClientInputs, codes "WebAuthn Level 3, section 9.3")
    ∷ (codes "client-outputs", kind.ClientOutputs, codes "WebAuthn Level 3, section 9.4")
    ∷ (codes "mediated-creation", kind.MediatedCreation, codes "WebAuthn Level 3, section 5.1.3")
    ∷ (codes "mediated-request", kind.MediatedRequest, codes "WebAuthn Level 3, section 5.1.4")
    ∷ (codes "client-data-top", kind.TopOrigin, codes "WebAuthn Level 3, section 5.8.1")
    ∷ (codes "client-data-payment", kind.Payment, codes "Secure Payment Confirmation")
    ∷ (codes "capabilities", kind.Capabilities, codes "WebAuthn Level 3, section 5.1.7")
    ∷ []

abbrev pub client_kinds : Names ClientKind
client_kinds = names_of client_rows

pub client_own : (x : ClientKind)
    → value_in client_kinds (own_name the_type client_kinds x) ≡ Some x
client_own kind.UnknownCredential = refl
client_own _ = refl

abbrev pub client_source : ClientKind → List ℕ
client_source = own_source the_type client_rows

-- client capabilities: an object of booleans
abbrev capabilities : Coded (ByteMap Bool)
capabilities = map_value truth_value

abbrev pub client_definition : ClientKind → JsonDefinition
client_definition kind.UnknownCredential = json_record client.Signals.unknown_credential
client_definition kind.AcceptedCredentials = json_record client.Signals.all_accepted_credentials
client_definition kind.UserDetails = json_record client.Signals.current_user_details
client_definition kind.ClientInputs = json_record client.ClientExtensions.client_extension_inputs
client_definition kind.ClientOutputs = json_record client.ClientExtensions.client_extension_outputs
client_definition kind.MediatedCreation = json_record (client.Mediated.mediated_options creation_options)
client_definition kind.MediatedRequest = json_record (client.Mediated.mediated_options request_options)
client_definition kind.TopOrigin =
    json_client_data is_top_origin (λ o. if_present text (member (codes "topOrigin") o)) origin_members
client_definition kind.Payment = json_client_data is_payment payment_in payment_members
client_definition kind.Capabilities = json_object capabilities.kind capabilities.json (codes "capabilities")
