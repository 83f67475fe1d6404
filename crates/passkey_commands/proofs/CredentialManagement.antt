-- Messages of authenticatorCredentialManagement: decoding their encodings again, their nesting levels, and their canonical form.
use Rattle.passkey_kinds.proofs.Numbered.{code_back, code_place, not_null_back, not_null_around, numbered_law, keeping_law, IsKeeping, IsNumbered, IsNumberedAs}
use Rattle.passkey_kinds.proofs.Steps.{optional_keeps, arith, shortest_head, truth_back, plainly, puts_value, puts_default, no_more, ◌▸◌, refl, byte_back, word_back, bytes_back, anything, optional_place, descriptor_law, ℕ, suc, ◌≡◌}
use Rattle.passkey_extensions.proofs.Entities.{rp_law, user_law}
use Rattle.passkey_commands.specs.credential_management.SubCommand.{sub_command_of, sub_command_byte}
use Rattle.passkey_commands.specs.credential_management.CredProtect.{cred_protect_of, cred_protect_byte}
use Rattle.passkey_commands.specs.credential_management.CmParameters.{cm_parameters}
use Rattle.passkey_commands.specs.credential_management.CmRequest.{cm_request, normal_cm_request}
use Rattle.passkey_commands.specs.credential_management.CmResponse.{cm_response, normal_cm_response}

-- ---- parameters

pub cm_parameters_law : IsNumbered 2 cm_parameters
unfolding shortest_head
cm_parameters_law = numbered_law 2 cm_parameters (λ r. refl) (λ r. refl) (λ r. refl)
    (λ k r. search (plainly, descriptor_law.plain k, user_law.plain (suc k)) depth 9) (λ r fits.
    puts_default (optional_place bytes_back refl r.rp_id_hash (anything r.rp_id_hash)) refl ▸
    puts_default (optional_place descriptor_law.back refl r.credential_id (search)) refl ▸
    puts_default (optional_place user_law.back refl r.user (search)) refl ▸
    no_more)

-- ---- requests

pub cm_request_law : IsNumberedAs normal_cm_request 3 cm_request
unfolding shortest_head
cm_request_law = numbered_law 3 cm_request (λ r. refl) (λ r. refl) (λ r. refl)
    (λ k r. search (plainly, cm_parameters_law.plain k) depth 10) (λ r fits.
    puts_value (code_back sub_command_of sub_command_byte) r.sub_command (search) ▸
    puts_default (optional_place cm_parameters_law.back refl r.sub_command_params (search)) refl ▸
    puts_default (optional_place byte_back refl r.pin_uv_auth_protocol (search)) refl ▸
    puts_default (optional_place bytes_back refl r.pin_uv_auth_param (anything r.pin_uv_auth_param)) refl ▸
    no_more)

-- ---- responses

pub cm_response_law : IsKeeping normal_cm_response cm_response (λ r. r.public_key)
unfolding shortest_head
cm_response_law = keeping_law cm_response 2 8 (omega arith) (λ p. refl) (λ p. refl) (λ p. refl)
    (λ Q rule p key. search (rule.holds, plainly, rp_law.plain 1, user_law.plain 1, descriptor_law.plain 0) depth 18) (λ Q p each. each.1.1.1.1.1.1.1.0) (λ m. tt)
    (λ m i less. search (optional_keeps not_null_around) depth 17 parts 17) (λ p fits.
    puts_default (optional_place word_back refl p.existing_resident_credentials_count (search)) refl ▸
    puts_default (optional_place word_back refl p.max_possible_remaining_resident_credentials_count (search)) refl ▸
    puts_default (optional_place rp_law.back refl p.rp (search)) refl ▸
    puts_default (optional_place bytes_back refl p.rp_id_hash (anything p.rp_id_hash)) refl ▸
    puts_default (optional_place word_back refl p.total_rps (search)) refl ▸
    puts_default (optional_place user_law.back refl p.user (search)) refl ▸
    puts_default (optional_place descriptor_law.back refl p.credential_id (search)) refl ▸
    puts_default (optional_place not_null_back refl p.public_key (search)) refl ▸
    puts_default (optional_place word_back refl p.total_credentials (search)) refl ▸
    puts_default (code_place cred_protect_of cred_protect_byte p.cred_protect (search)) refl ▸
    puts_default (optional_place bytes_back refl p.large_blob_key (anything p.large_blob_key)) refl ▸
    puts_default (optional_place truth_back refl p.third_party_payment (anything p.third_party_payment)) refl ▸
    no_more)
