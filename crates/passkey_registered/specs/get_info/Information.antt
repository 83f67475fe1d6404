-- authenticatorGetInfo responses (CTAP 2.3, section 6.4).
use Rattle.std.specs.Prelude.{[], ◌∷◌, ◌++◌, List, None, codes, replicate}
use Rattle.passkey_registered.specs.get_info.CredentialParameters.{credential_parameters}
use Rattle.passkey_registered.specs.get_info.Options.{options}
use Rattle.passkey_registered.specs.declared.get_info.response.Response.{Response}
use Rattle.passkey_kinds.specs.Coded.{aaguid, accepted_of, bytes, list_of, text, truth}
use Rattle.passkey_kinds.specs.Numbered.{kept_item, long}
use Rattle.passkey_kinds.specs.Words.{Placed, PlainTable, byte, optional_at, optional_at_or, plain, required_at, tolerated_at}

abbrev pub first_members : List (Placed Response)
first_members =
    required_at 1 (codes "versions") (list_of text) (λ r. r.versions) (λ x r. record r { versions = x })
    ∷ optional_at 2 (codes "extensions") (list_of text) (λ r. r.extensions) (λ x r. record r { extensions = x })
    ∷ required_at 3 (codes "aaguid") aaguid (λ r. r.aaguid.0) (λ x r. record r { aaguid = (record { 0 = x }) })
    ∷ optional_at 4 (codes "options") (plain options) (λ r. r.options) (λ x r. record r { options = x })
    ∷ optional_at 5 (codes "maxMsgSize") long (λ r. r.max_msg_size) (λ x r. record r { max_msg_size = x })
    ∷ optional_at_or 6 (codes "pinUvAuthProtocols") (codes "pinProtocols") (list_of byte) (λ r. r.pin_uv_auth_protocols)
    (λ x r. record r { pin_uv_auth_protocols = x })
    ∷ optional_at 7 (codes "maxCredentialCountInList") long (λ r. r.max_credential_count_in_list)
    (λ x r. record r { max_credential_count_in_list = x })
    ∷ optional_at 8 (codes "maxCredentialIdLength") long (λ r. r.max_credential_id_length)
    (λ x r. record r { max_credential_id_length = x })
    ∷ []

abbrev pub middle_members : List (Placed Response)
middle_members =
    tolerated_at 9 (codes "transports") (accepted_of text) (λ r. r.transports) (λ x r. record r { transports = x })
    ∷ tolerated_at 10 (codes "algorithms") (accepted_of (plain credential_parameters)) (λ r. r.algorithms)
    (λ x r. record r { algorithms = x })
    ∷ optional_at_or 11 (codes "maxSerializedLargeBlobArray") (codes "macSerializedLargeBlobArray") long
    (λ r. r.max_serialized_large_blob_array) (λ x r. record r { max_serialized_large_blob_array = x })
    ∷ optional_at_or 12 (codes "forcePINChange") (codes "forcePinChange") truth (λ r. r.force_pin_change)
    (λ x r. record r { force_pin_change = x })
    ∷ optional_at_or 13 (codes "minPINLength") (codes "minPinLength") long (λ r. r.min_pin_length)
    (λ x r. record r { min_pin_length = x })
    ∷ optional_at 14 (codes "firmwareVersion") long (λ r. r.firmware_version) (λ x r. record r { firmware_version = x })
    ∷ optional_at 15 (codes "maxCredBlobLength") long (λ r. r.max_cred_blob_length)
    (λ x r. record r { max_cred_blob_length = x })
    ∷ optional_at_or 16 (codes "maxRPIDsForSetMinPINLength") (codes "maxRpidsForSetMinPinLength") long
    (λ r. r.max_rpids_for_set_min_pin_length) (λ x r. record r { max_rpids_for_set_min_pin_length = x })
    ∷ optional_at 17 (codes "preferredPlatformUvAttempts") long (λ r. r.preferred_platform_uv_attempts)
    (λ x r. record r { preferred_platform_uv_attempts = x })
    ∷ optional_at 18 (codes "uvModality") long (λ r. r.uv_modality) (λ x r. record r { uv_modality = x })
    ∷ []

abbrev pub last_members : List (Placed Response)
last_members =
    optional_at 19 (codes "certifications") kept_item (λ r. r.certifications) (λ x r. record r { certifications = x })
    ∷ optional_at 20 (codes "remainingDiscoverableCredentials") long (λ r. r.remaining_discoverable_credentials)
    (λ x r. record r { remaining_discoverable_credentials = x })
    ∷ tolerated_at 21 (codes "vendorPrototypeConfigCommands") (accepted_of long) (λ r. r.vendor_prototype_config_commands)
    (λ x r. record r { vendor_prototype_config_commands = x })
    ∷ tolerated_at 22 (codes "attestationFormats") (accepted_of text) (λ r. r.attestation_formats)
    (λ x r. record r { attestation_formats = x })
    ∷ optional_at 23 (codes "uvCountSinceLastPinEntry") long (λ r. r.uv_count_since_last_pin_entry)
    (λ x r. record r { uv_count_since_last_pin_entry = x })
    ∷ optional_at 24 (codes "longTouchForReset") truth (λ r. r.long_touch_for_reset)
    (λ x r. record r { long_touch_for_reset = x })
    ∷ optional_at 25 (codes "encIdentifier") bytes (λ r. r.enc_identifier) (λ x r. record r { enc_identifier = x })
    ∷ tolerated_at 26 (codes "transportsForReset") (accepted_of text) (λ r. r.transports_for_reset)
    (λ x r. record r { transports_for_reset = x })
    ∷ []

abbrev pub newest_members : List (Placed Response)
newest_members =
    optional_at 27 (codes "pinComplexityPolicy") truth (λ r. r.pin_complexity_policy)
    (λ x r. record r { pin_complexity_policy = x })
    ∷ optional_at_or 28 (codes "pinComplexityPolicyURL") (codes "pinComplexityPolicyUrl") bytes
    (λ r. r.pin_complexity_policy_url) (λ x r. record r { pin_complexity_policy_url = x })
    ∷ optional_at_or 29 (codes "maxPINLength") (codes "maxPinLength") long (λ r. r.max_pin_length)
    (λ x r. record r { max_pin_length = x })
    ∷ optional_at 30 (codes "encCredStoreState") bytes (λ r. r.enc_cred_store_state)
    (λ x r. record r { enc_cred_store_state = x })
    ∷ optional_at 31 (codes "authenticatorConfigCommands") (list_of byte) (λ r. r.authenticator_config_commands)
    (λ x r. record r { authenticator_config_commands = x })
    ∷ []

abbrev pub after_middle : List (Placed Response)
after_middle = last_members ++ newest_members

abbrev pub after_first : List (Placed Response)
after_first = middle_members ++ after_middle

abbrev pub information : PlainTable Response
information = record {
  blank = record {
    versions = [];
    extensions = None;
    aaguid = record { 0 = replicate 16 0 };
    options = None;
    max_msg_size = None;
    pin_uv_auth_protocols = None;
    max_credential_count_in_list = None;
    max_credential_id_length = None;
    transports = None;
    algorithms = None;
    max_serialized_large_blob_array = None;
    force_pin_change = None;
    min_pin_length = None;
    firmware_version = None;
    max_cred_blob_length = None;
    max_rpids_for_set_min_pin_length = None;
    preferred_platform_uv_attempts = None;
    uv_modality = None;
    certifications = None;
    remaining_discoverable_credentials = None;
    vendor_prototype_config_commands = None;
    attestation_formats = None;
    uv_count_since_last_pin_entry = None;
    long_touch_for_reset = None;
    enc_identifier = None;
    transports_for_reset = None;
    pin_complexity_policy = None;
    pin_complexity_policy_url = None;
    max_pin_length = None;
    enc_cred_store_state = None;
    authenticator_config_commands = None;
  };
  members = first_members ++ after_first;
}
