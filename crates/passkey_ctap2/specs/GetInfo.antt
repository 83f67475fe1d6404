-- authenticatorGetInfo responses, their options and the names in them (CTAP 2.1, section 6.4).
use Rattle.std.specs.Prelude.{ℕ, List, [], ◌∷◌, Some, codes, unwrap_or, Bool, ◌++◌, Option, true, false, None, ◌<◌, ◌^◌, nat_lt, ◌&&◌, if◌then◌else◌, map, replicate, option_map}
use Rattle.passkey_ctap2.specs.declared.get_info.extension.Extension.{Extension}
use Rattle.passkey_ctap2.specs.declared.get_info.options.Options.{Options}
use Rattle.passkey_ctap2.specs.declared.get_info.response.Response.{Response}
use Rattle.passkey_ctap2.specs.declared.get_info.version.Version.{Version}
use Rattle.passkey_kinds.specs.Coded.{truth, text, bytes, aaguid, list_of, accepted_of}
use Rattle.passkey_kinds.specs.Kind.{name_from}
use Rattle.passkey_kinds.specs.Numbered.{is_shallow, numbered_fields}
use Rattle.passkey_kinds.specs.Words.{byte, item, word, transport, plain, Coded, placed_if, kept_if_some, Item, text_string, Any, Kind, text_as, Placed, PlainTable, default_as, optional_as, null, item_of, IfPresent, parameters, placed, plain_tree, required_at, optional_at, tolerated_at, EachFits, Fields, default, number_tree, size, optional, PublicKeyCredentialParameters, AuthenticatorTransport}
use Rattle.passkey_kinds.specs.declared.fault.WriteFault.{WriteFault}
use Rattle.passkey_kinds.specs.declared.fault.WriteFault.TheVariants.{OutOfMemory, NumberTooLarge}
use Rattle.passkey_webauthn.specs.Names.{named_in}
use Rattle.std.specs.Int.NonZero.{non_zero_u128_get}
use Rattle.std.specs.Option.{option_and_then}
use Rattle.passkey_ctap2.specs.declared.get_info.extension.Extension.TheVariants as extensions
use Rattle.passkey_ctap2.specs.declared.get_info.version.Version.TheVariants as versions

-- ---- the names of versions and extensions that an authenticator supports (CTAP 2.1, section 6.4)

abbrev pub version_name : Version → List ℕ
version_name versions.FIDO_2_0 = codes "FIDO_2_0"
version_name versions.FIDO_2_1 = codes "FIDO_2_1"
version_name (versions.Unknown name) = name

-- every name is the name of a version
abbrev pub version_named : List ℕ → Version
version_named name =
    unwrap_or (named_in version_name (versions.FIDO_2_0 ∷ versions.FIDO_2_1 ∷ []) name) (versions.Unknown name)

abbrev pub version : Kind Version
version = name_from (λ name. Some (version_named name))

abbrev pub version_tree : Version → Item
version_tree v = text_string (version_name v)

abbrev pub version_coded : Coded Version
version_coded = record { typed = text_as version; tree = version_tree; Fits = Any }

-- an unknown version with the name of a known one becomes the known one
abbrev pub normal_version : Version → Version
normal_version v = version_named (version_name v)

abbrev pub extension_name : Extension → List ℕ
extension_name extensions.HmacSecret = codes "hmac-secret"
extension_name extensions.HmacSecretMakeCredential = codes "hmac-secret-mc"
extension_name extensions.Prf = codes "prf"
extension_name (extensions.Unknown name) = name

-- every name is the name of an extension
abbrev pub extension_named : List ℕ → Extension
extension_named name = unwrap_or (named_in extension_name (extensions.HmacSecret
    ∷ extensions.HmacSecretMakeCredential ∷ extensions.Prf ∷ []) name) (extensions.Unknown name)

abbrev pub extension : Kind Extension
extension = name_from (λ name. Some (extension_named name))

abbrev pub extension_tree : Extension → Item
extension_tree e = text_string (extension_name e)

abbrev pub extension_coded : Coded Extension
extension_coded = record { typed = text_as extension; tree = extension_tree; Fits = Any }

abbrev pub normal_extension : Extension → Extension
normal_extension e = extension_named (extension_name e)

-- ---- options of authenticatorGetInfo responses (CTAP 2.1, section 6.4)

abbrev pub options_default : Options
options_default = record {
  plat = false;
  rk = false;
  client_pin = None;
  up = true;
  uv = None;
  pin_uv_auth_token = None;
  no_mc_ga_permissions_with_client_pin = None;
  large_blobs = None;
  ep = None;
  bio_enroll = None;
  user_verification_mgmt_preview = None;
  uv_bio_enroll = None;
  authnr_cfg = None;
  uv_acfg = None;
  cred_mgmt = None;
  credential_mgmt_preview = None;
  set_min_pin_length = None;
  make_cred_uv_not_rqd = None;
  always_uv = None;
}

abbrev flag : ℕ → List ℕ → (Options → Option Bool) → (Option Bool → Options → Options) → Placed Options
flag n name get set = optional_as n name truth get set

-- the options that are encoded first: the prover follows the chain of as many members
abbrev pub first_options : List (Placed Options)
first_options =
    flag 9 (codes "ep") (λ o. o.ep) (λ b o. record o { ep = b })
    ∷ default_as 2 (codes "rk") truth (λ o. o.rk) (λ b o. record o { rk = b })
    ∷ default_as 4 (codes "up") truth (λ o. o.up) (λ b o. record o { up = b })
    ∷ flag 5 (codes "uv") (λ o. o.uv) (λ b o. record o { uv = b })
    ∷ default_as 1 (codes "plat") truth (λ o. o.plat) (λ b o. record o { plat = b })
    ∷ flag 14 (codes "uvAcfg") (λ o. o.uv_acfg) (λ b o. record o { uv_acfg = b })
    ∷ flag 19 (codes "alwaysUv") (λ o. o.always_uv) (λ b o. record o { always_uv = b })
    ∷ flag 15 (codes "credMgmt") (λ o. o.cred_mgmt) (λ b o. record o { cred_mgmt = b })
    ∷ flag 13 (codes "authnrCfg") (λ o. o.authnr_cfg) (λ b o. record o { authnr_cfg = b })
    ∷ flag 10 (codes "bioEnroll") (λ o. o.bio_enroll) (λ b o. record o { bio_enroll = b })
    ∷ []

abbrev pub last_options : List (Placed Options)
last_options =
    flag 3 (codes "clientPin") (λ o. o.client_pin) (λ b o. record o { client_pin = b })
    ∷ flag 8 (codes "largeBlobs") (λ o. o.large_blobs) (λ b o. record o { large_blobs = b })
    ∷ flag 12 (codes "uvBioEnroll") (λ o. o.uv_bio_enroll) (λ b o. record o { uv_bio_enroll = b })
    ∷ flag 6 (codes "pinUvAuthToken") (λ o. o.pin_uv_auth_token)
    (λ b o. record o { pin_uv_auth_token = b })
    ∷ flag 17 (codes "setMinPINLength") (λ o. o.set_min_pin_length)
    (λ b o. record o { set_min_pin_length = b })
    ∷ flag 18 (codes "makeCredUvNotRqd") (λ o. o.make_cred_uv_not_rqd)
    (λ b o. record o { make_cred_uv_not_rqd = b })
    ∷ flag 16 (codes "credentialMgmtPreview") (λ o. o.credential_mgmt_preview)
    (λ b o. record o { credential_mgmt_preview = b })
    ∷ flag 11 (codes "userVerificationMgmtPreview") (λ o. o.user_verification_mgmt_preview)
    (λ b o. record o { user_verification_mgmt_preview = b })
    ∷ flag 7 (codes "noMcGaPermissionsWithClientPin") (λ o. o.no_mc_ga_permissions_with_client_pin)
    (λ b o. record o { no_mc_ga_permissions_with_client_pin = b })
    ∷ []

abbrev pub options : PlainTable Options
options = record { blank = options_default; members = first_options ++ last_options }

-- ---- authenticatorGetInfo responses (CTAP 2.1, section 6.4)

-- what contracts see of a response
pub record GetInfoParts : Type 0 where
  pub versions : List Version
  pub extensions : Option (List Extension)
  pub aaguid : List ℕ
  pub options : Option Options
  pub max_msg_size : Option ℕ
  pub pin_protocols : Option (List ℕ)
  pub transports : Option (List AuthenticatorTransport)
  pub algorithms : Option (List PublicKeyCredentialParameters)
  pub mac_serialized_large_blob_array : Option ℕ
  pub force_pin_change : Option Bool
  pub min_pin_length : Option ℕ
  pub firmware_version : Option ℕ
  pub max_cred_blob_length : Option ℕ
  pub max_rpids_for_set_min_pin_length : Option ℕ
  pub preferred_platform_uv_attempts : Option ℕ
  pub uv_modality : Option ℕ
  pub certifications : Option Item
  pub remaining_discoverable_credentials : Option ℕ
  pub vendor_prototype_config_commands : Option (List ℕ)
  pub attestation_formats : Option (List (List ℕ))
  pub uv_count_since_last_pin_entry : Option ℕ
  pub long_touch_for_reset : Option Bool
  pub enc_identifier : Option (List ℕ)
  pub transports_for_reset : Option (List AuthenticatorTransport)
  pub pin_complexity_policy : Option Bool
  pub pin_complexity_policy_url : Option (List ℕ)
  pub max_pin_length : Option ℕ

abbrev pub get_info_parts : Response → GetInfoParts
get_info_parts r = record {
  versions = r.versions;
  extensions = r.extensions;
  aaguid = r.aaguid.0;
  options = r.options;
  max_msg_size = option_map non_zero_u128_get r.max_msg_size;
  pin_protocols = r.pin_protocols;
  transports = r.transports;
  algorithms = r.algorithms;
  mac_serialized_large_blob_array = r.mac_serialized_large_blob_array;
  force_pin_change = r.force_pin_change;
  min_pin_length = r.min_pin_length;
  firmware_version = r.firmware_version;
  max_cred_blob_length = r.max_cred_blob_length;
  max_rpids_for_set_min_pin_length = r.max_rpids_for_set_min_pin_length;
  preferred_platform_uv_attempts = r.preferred_platform_uv_attempts;
  uv_modality = r.uv_modality;
  certifications = option_map item_of r.certifications;
  remaining_discoverable_credentials = r.remaining_discoverable_credentials;
  vendor_prototype_config_commands = r.vendor_prototype_config_commands;
  attestation_formats = r.attestation_formats;
  uv_count_since_last_pin_entry = r.uv_count_since_last_pin_entry;
  long_touch_for_reset = r.long_touch_for_reset;
  enc_identifier = r.enc_identifier;
  transports_for_reset = r.transports_for_reset;
  pin_complexity_policy = r.pin_complexity_policy;
  pin_complexity_policy_url = r.pin_complexity_policy_url;
  max_pin_length = r.max_pin_length;
}

-- no versions, an AAGUID of zeros, and no other member
abbrev pub get_info_empty : GetInfoParts
get_info_empty = record {
  versions = [];
  extensions = None;
  aaguid = replicate 16 0;
  options = None;
  max_msg_size = None;
  pin_protocols = None;
  transports = None;
  algorithms = None;
  mac_serialized_large_blob_array = None;
  force_pin_change = None;
  min_pin_length = None;
  firmware_version = None;
  max_cred_blob_length = None;
  max_rpids_for_set_min_pin_length = None;
  preferred_platform_uv_attempts = None;
  uv_modality = None;
  certifications = None;
  remaining_discoverable_credentials = None;
  vendor_prototype_config_commands = None;
  attestation_formats = None;
  uv_count_since_last_pin_entry = None;
  long_touch_for_reset = None;
  enc_identifier = None;
  transports_for_reset = None;
  pin_complexity_policy = None;
  pin_complexity_policy_url = None;
  max_pin_length = None;
}

-- ---- its members

abbrev pub IsPositive : ℕ → Type 0
IsPositive n = 0 < n

-- what the authenticator supports, with this data item as its greatest message size
abbrev pub first_members_with : (GetInfoParts → Option Item) → List (Placed GetInfoParts)
first_members_with encoded =
    required_at 1 (codes "versions") (list_of version_coded) (λ r. r.versions) (λ x r. record r { versions = x })
    ∷ optional_at 2 (codes "extensions") (list_of extension_coded) (λ r. r.extensions) (λ x r. record r { extensions = x })
    ∷ required_at 3 (codes "aaguid") aaguid (λ r. r.aaguid) (λ x r. record r { aaguid = x })
    ∷ optional_at 4 (codes "options") (plain options) (λ r. r.options) (λ x r. record r { options = x })
    ∷ placed_if (λ r. IfPresent IsPositive r.max_msg_size)
    (default 5 (codes "maxMsgSize") (optional size) (λ x r. record r { max_msg_size = x }))
    (λ r. (number_tree 5, encoded r))
    ∷ optional_at 6 (codes "pinProtocols") (list_of byte) (λ r. r.pin_protocols) (λ x r. record r { pin_protocols = x })
    ∷ tolerated_at 9 (codes "transports") (accepted_of transport) (λ r. r.transports) (λ x r. record r { transports = x })
    ∷ tolerated_at 10 (codes "algorithms") (accepted_of (plain parameters)) (λ r. r.algorithms)
    (λ x r. record r { algorithms = x })
    ∷ []

abbrev pub first_members : List (Placed GetInfoParts)
first_members = first_members_with (λ r. option_map number_tree r.max_msg_size)

abbrev pub middle_members : List (Placed GetInfoParts)
middle_members =
    optional_at 11 (codes "macSerializedLargeBlobArray") word (λ r. r.mac_serialized_large_blob_array)
    (λ x r. record r { mac_serialized_large_blob_array = x })
    ∷ optional_at 12 (codes "forcePinChange") truth (λ r. r.force_pin_change)
    (λ x r. record r { force_pin_change = x })
    ∷ optional_at 13 (codes "minPinLength") word (λ r. r.min_pin_length) (λ x r. record r { min_pin_length = x })
    ∷ optional_at 14 (codes "firmwareVersion") word (λ r. r.firmware_version)
    (λ x r. record r { firmware_version = x })
    ∷ optional_at 15 (codes "maxCredBlobLength") word (λ r. r.max_cred_blob_length)
    (λ x r. record r { max_cred_blob_length = x })
    ∷ optional_at 16 (codes "maxRpidsForSetMinPinLength") word (λ r. r.max_rpids_for_set_min_pin_length)
    (λ x r. record r { max_rpids_for_set_min_pin_length = x })
    ∷ optional_at 17 (codes "preferredPlatformUvAttempts") word (λ r. r.preferred_platform_uv_attempts)
    (λ x r. record r { preferred_platform_uv_attempts = x })
    ∷ optional_at 18 (codes "uvModality") word (λ r. r.uv_modality) (λ x r. record r { uv_modality = x })
    ∷ placed (default 19 (codes "certifications") (optional item.typed) (λ x r. record r { certifications = x }))
    (λ r. (number_tree 19, r.certifications))
    ∷ optional_at 20 (codes "remainingDiscoverableCredentials") word (λ r. r.remaining_discoverable_credentials)
    (λ x r. record r { remaining_discoverable_credentials = x })
    ∷ []

abbrev pub last_members : List (Placed GetInfoParts)
last_members =
    tolerated_at 21 (codes "vendorPrototypeConfigCommands") (accepted_of word) (λ r. r.vendor_prototype_config_commands)
    (λ x r. record r { vendor_prototype_config_commands = x })
    ∷ tolerated_at 22 (codes "attestationFormats") (accepted_of text) (λ r. r.attestation_formats)
    (λ x r. record r { attestation_formats = x })
    ∷ optional_at 23 (codes "uvCountSinceLastPinEntry") word (λ r. r.uv_count_since_last_pin_entry)
    (λ x r. record r { uv_count_since_last_pin_entry = x })
    ∷ optional_at 24 (codes "longTouchForReset") truth (λ r. r.long_touch_for_reset)
    (λ x r. record r { long_touch_for_reset = x })
    ∷ optional_at 25 (codes "encIdentifier") bytes (λ r. r.enc_identifier) (λ x r. record r { enc_identifier = x })
    ∷ tolerated_at 26 (codes "transportsForReset") (accepted_of transport) (λ r. r.transports_for_reset)
    (λ x r. record r { transports_for_reset = x })
    ∷ optional_at 27 (codes "pinComplexityPolicy") truth (λ r. r.pin_complexity_policy)
    (λ x r. record r { pin_complexity_policy = x })
    ∷ optional_at 28 (codes "pinComplexityPolicyUrl") bytes (λ r. r.pin_complexity_policy_url)
    (λ x r. record r { pin_complexity_policy_url = x })
    ∷ optional_at 29 (codes "maxPinLength") word (λ r. r.max_pin_length) (λ x r. record r { max_pin_length = x })
    ∷ []

abbrev pub get_info : PlainTable GetInfoParts
get_info = record { blank = get_info_empty; members = first_members ++ middle_members ++ last_members }

-- how a response is decoded
abbrev pub get_info_fields : Fields GetInfoParts
get_info_fields = numbered_fields get_info

-- the data item that a response is encoded as, and what it keeps undecoded of it
abbrev pub get_info_tree : GetInfoParts → Item
get_info_tree = plain_tree get_info

abbrev pub get_info_kept : GetInfoParts → List Item
get_info_kept r = kept_if_some (λ i. i ∷ []) r.certifications

-- what holds of every response
abbrev pub GetInfoFits : GetInfoParts → Type 0
GetInfoFits r = EachFits first_members r × (EachFits middle_members r × EachFits last_members r)

-- ---- which responses can be encoded, and decoded again

-- CBOR's unsigned integers are below 2^64 (RFC 8949, section 3.1)
abbrev pub is_encodable : Option ℕ → Bool
is_encodable None = true
is_encodable (Some n) = nat_lt n (2 ^ 64)

-- why a response wasn't encoded: its size is too large, or else an allocation failed
abbrev pub fault_of_size : Option ℕ → WriteFault
fault_of_size size = if is_encodable size then OutOfMemory else NumberTooLarge

-- the size can be encoded, and the encoding has at most `max_depth` nesting levels
abbrev pub is_get_info_coherent : GetInfoParts → Bool
is_get_info_coherent r = is_encodable r.max_msg_size && is_shallow get_info r

-- null decodes to `None`
abbrev pub unless_null : Item → Option Item
unless_null null = None
unless_null i = Some i

-- the response that the encoding decodes to
abbrev pub normal_get_info : GetInfoParts → GetInfoParts
normal_get_info r = record r {
  versions = map normal_version r.versions;
  extensions = option_map (map normal_extension) r.extensions;
  certifications = option_and_then unless_null r.certifications;
}
