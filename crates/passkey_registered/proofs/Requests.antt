-- Requests to make and to use a credential: decoding their encodings again, their nesting levels, and their canonical
-- form.
use Rattle.passkey_kinds.proofs.Numbered.{IsKeeping, keeping_law, long_back, not_null_around, not_null_back}
use Rattle.passkey_kinds.proofs.Steps.{all_of_anything, anything, arith, list_plain, list_same, no_more, plainly, puts_default, puts_value, refl, shortest_head, text_back, ◌▸◌}
use Rattle.passkey_registered.proofs.EntityLaws.{descriptor_law, request_options_law, rp_law, user_law}
use Rattle.passkey_registered.proofs.ExactValues.{exact_bytes_back, hash_back, present_keeps, present_place}
use Rattle.passkey_registered.proofs.Information.{parameters_law}
use Rattle.passkey_registered.specs.get_assertion.GaRequest.{ga_request}
use Rattle.passkey_registered.specs.make_credential.McRequest.{mc_request}

pub ga_request_law : IsKeeping (λ r. r) ga_request (λ r. r.extensions)
unfolding shortest_head
ga_request_law = keeping_law ga_request 3 4 (omega arith) (λ r. refl) (λ r. refl) (λ r. refl)
    (λ Q rule r key. search (rule.holds, plainly, list_plain 2, descriptor_law.plain 0, request_options_law.plain 2) depth 24)
    (λ Q r each. search) (λ m. tt)
    (λ m i less. search (present_keeps not_null_around) depth 18 parts 18) (λ r fits.
    puts_value text_back r.rp_id tt ▸
    puts_value hash_back r.client_data_hash.0 (search) ▸
    puts_default (present_place (list_same descriptor_law.back) r.allow_list (search)) refl ▸
    puts_default (present_place not_null_back r.extensions (search)) refl ▸
    puts_default (present_place request_options_law.back r.options (search)) refl ▸
    puts_default (present_place exact_bytes_back r.pin_uv_auth_param (anything r.pin_uv_auth_param)) refl ▸
    puts_default (present_place long_back r.pin_uv_auth_protocol (search)) refl ▸
    puts_default (present_place long_back r.enterprise_attestation (search)) refl ▸
    puts_default (present_place (list_same text_back) r.attestation_formats_preference
    (all_of_anything r.attestation_formats_preference)) refl ▸
    no_more)

pub mc_request_law : IsKeeping (λ r. r) mc_request (λ r. r.extensions)
unfolding shortest_head
mc_request_law = keeping_law mc_request 3 6 (omega arith) (λ r. refl) (λ r. refl) (λ r. refl)
    (λ Q rule r key. search (
      rule.holds,
      plainly,
      list_plain 2,
      descriptor_law.plain 0,
      parameters_law.plain 1,
      rp_law.plain 2,
      user_law.plain 2,
      request_options_law.plain 2,
    ) depth 26)
    (λ Q r each. search) (λ m. tt)
    (λ m i less. search (present_keeps not_null_around) depth 20 parts 20) (λ r fits.
    puts_value hash_back r.client_data_hash.0 (search) ▸
    puts_value rp_law.back r.rp (search) ▸
    puts_value user_law.back r.user (search) ▸
    puts_value (list_same parameters_law.back) r.pub_key_cred_params (search) ▸
    puts_default (present_place (list_same descriptor_law.back) r.exclude_list (search)) refl ▸
    puts_default (present_place not_null_back r.extensions (search)) refl ▸
    puts_default (present_place request_options_law.back r.options (search)) refl ▸
    puts_default (present_place exact_bytes_back r.pin_uv_auth_param (anything r.pin_uv_auth_param)) refl ▸
    puts_default (present_place long_back r.pin_uv_auth_protocol (search)) refl ▸
    puts_default (present_place long_back r.enterprise_attestation (search)) refl ▸
    puts_default (present_place (list_same text_back) r.attestation_formats_preference
    (all_of_anything r.attestation_formats_preference)) refl ▸
    no_more)
