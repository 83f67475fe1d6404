-- authenticatorMakeCredential requests, by the standard alone (CTAP 2.2, section 6.1).
use Rattle.std.specs.Prelude.{[], ◌∷◌, ◌++◌, List, None, codes, replicate}
use Rattle.passkey_kinds.specs.Coded.{list_of, text}
use Rattle.passkey_kinds.specs.Numbered.{kept_item, long}
use Rattle.passkey_kinds.specs.Words.{Placed, PlainTable, plain, required_at}
use Rattle.passkey_registered.specs.Entities.{descriptor, request_options, rp, user}
use Rattle.passkey_registered.specs.Exact.{exact_bytes, hash, present_at}
use Rattle.passkey_registered.specs.declared.make_credential.request.Request.{Request}
use Rattle.passkey_registered.specs.get_info.CredentialParameters.{credential_parameters}

abbrev pub first_members : List (Placed Request)
first_members =
    required_at 1 (codes "clientDataHash") hash (λ r. r.client_data_hash.0)
    (λ x r. record r { client_data_hash = (record { 0 = x }) })
    ∷ required_at 2 (codes "rp") (plain rp) (λ r. r.rp) (λ x r. record r { rp = x })
    ∷ required_at 3 (codes "user") (plain user) (λ r. r.user) (λ x r. record r { user = x })
    ∷ required_at 4 (codes "pubKeyCredParams") (list_of (plain credential_parameters)) (λ r. r.pub_key_cred_params)
    (λ x r. record r { pub_key_cred_params = x })
    ∷ present_at 5 (codes "excludeList") (list_of (plain descriptor)) (λ r. r.exclude_list)
    (λ x r. record r { exclude_list = x })
    ∷ present_at 6 (codes "extensions") kept_item (λ r. r.extensions) (λ x r. record r { extensions = x })
    ∷ []

abbrev pub last_members : List (Placed Request)
last_members =
    present_at 7 (codes "options") (plain request_options) (λ r. r.options) (λ x r. record r { options = x })
    ∷ present_at 8 (codes "pinUvAuthParam") exact_bytes (λ r. r.pin_uv_auth_param)
    (λ x r. record r { pin_uv_auth_param = x })
    ∷ present_at 9 (codes "pinUvAuthProtocol") long (λ r. r.pin_uv_auth_protocol)
    (λ x r. record r { pin_uv_auth_protocol = x })
    ∷ present_at 10 (codes "enterpriseAttestation") long (λ r. r.enterprise_attestation)
    (λ x r. record r { enterprise_attestation = x })
    ∷ present_at 11 (codes "attestationFormatsPreference") (list_of text) (λ r. r.attestation_formats_preference)
    (λ x r. record r { attestation_formats_preference = x })
    ∷ []

abbrev pub mc_request : PlainTable Request
mc_request = record {
  blank = record {
    client_data_hash = record { 0 = replicate 32 0 };
    rp = rp.blank;
    user = user.blank;
    pub_key_cred_params = [];
    exclude_list = None;
    extensions = None;
    options = None;
    pin_uv_auth_param = None;
    pin_uv_auth_protocol = None;
    enterprise_attestation = None;
    attestation_formats_preference = None;
  };
  members = first_members ++ last_members;
}
