-- authenticatorGetAssertion requests, by the standard alone (CTAP 2.2, section 6.2).
use Rattle.std.specs.Prelude.{[], ◌∷◌, None, codes, replicate}
use Rattle.passkey_kinds.specs.Coded.{list_of, text}
use Rattle.passkey_kinds.specs.Numbered.{kept_item, long}
use Rattle.passkey_kinds.specs.Words.{PlainTable, plain, required_at}
use Rattle.passkey_registered.specs.Entities.{descriptor, request_options}
use Rattle.passkey_registered.specs.Exact.{exact_bytes, hash, present_at}
use Rattle.passkey_registered.specs.declared.get_assertion.request.Request.{Request}

abbrev pub ga_request : PlainTable Request
ga_request = record {
  blank = record {
    rp_id = [];
    client_data_hash = record { 0 = replicate 32 0 };
    allow_list = None;
    extensions = None;
    options = None;
    pin_uv_auth_param = None;
    pin_uv_auth_protocol = None;
    enterprise_attestation = None;
    attestation_formats_preference = None;
  };
  members = required_at 1 (codes "rpId") text (λ r. r.rp_id) (λ x r. record r { rp_id = x })
      ∷ required_at 2 (codes "clientDataHash") hash (λ r. r.client_data_hash.0)
      (λ x r. record r { client_data_hash = (record { 0 = x }) })
      ∷ present_at 3 (codes "allowList") (list_of (plain descriptor)) (λ r. r.allow_list)
      (λ x r. record r { allow_list = x })
      ∷ present_at 4 (codes "extensions") kept_item (λ r. r.extensions) (λ x r. record r { extensions = x })
      ∷ present_at 5 (codes "options") (plain request_options) (λ r. r.options) (λ x r. record r { options = x })
      ∷ present_at 6 (codes "pinUvAuthParam") exact_bytes (λ r. r.pin_uv_auth_param)
      (λ x r. record r { pin_uv_auth_param = x })
      ∷ present_at 7 (codes "pinUvAuthProtocol") long (λ r. r.pin_uv_auth_protocol)
      (λ x r. record r { pin_uv_auth_protocol = x })
      ∷ present_at 8 (codes "enterpriseAttestation") long (λ r. r.enterprise_attestation)
      (λ x r. record r { enterprise_attestation = x })
      ∷ present_at 9 (codes "attestationFormatsPreference") (list_of text) (λ r. r.attestation_formats_preference)
      (λ x r. record r { attestation_formats_preference = x })
      ∷ [];
}
