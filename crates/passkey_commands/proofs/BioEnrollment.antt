-- Messages of authenticatorBioEnrollment: decoding their encodings again, their nesting levels, and their canonical form.
use Rattle.passkey_kinds.proofs.Numbered.{code_place, numbered_law, IsNumbered, IsNumberedAs}
use Rattle.passkey_kinds.proofs.Steps.{shortest_head, truth_back, plainly, list_plain, puts_value, puts_default, no_more, ◌▸◌, refl, byte_back, word_back, text_back, bytes_back, anything, optional_place, list_same, ℕ, suc, ◌≡◌}
use Rattle.passkey_commands.specs.bio_enrollment.SubCommand.{sub_command_of, sub_command_byte}
use Rattle.passkey_commands.specs.bio_enrollment.Modality.{modality_of, modality_byte}
use Rattle.passkey_commands.specs.bio_enrollment.FingerprintKind.{fingerprint_kind_of, fingerprint_kind_byte}
use Rattle.passkey_commands.specs.bio_enrollment.SampleStatus.{sample_status_of, sample_status_byte}
use Rattle.passkey_commands.specs.bio_enrollment.BioParameters.{bio_parameters}
use Rattle.passkey_commands.specs.bio_enrollment.BioRequest.{bio_request, normal_bio_request}
use Rattle.passkey_commands.specs.bio_enrollment.TemplateInfo.{template_info}
use Rattle.passkey_commands.specs.bio_enrollment.BioResponse.{bio_response, normal_bio_response}

-- ---- parameters

pub bio_parameters_law : IsNumbered 0 bio_parameters
unfolding shortest_head
bio_parameters_law = numbered_law 0 bio_parameters (λ r. refl) (λ r. refl) (λ r. refl)
    (λ k r. search (plainly) depth 9) (λ r fits.
    puts_default (optional_place bytes_back refl r.template_id (anything r.template_id)) refl ▸
    puts_default (optional_place text_back refl r.template_friendly_name (anything r.template_friendly_name)) refl ▸
    puts_default (optional_place word_back refl r.timeout_milliseconds (search)) refl ▸
    no_more)

-- ---- requests

pub bio_request_law : IsNumberedAs normal_bio_request 1 bio_request
unfolding shortest_head
bio_request_law = numbered_law 1 bio_request (λ r. refl) (λ r. refl) (λ r. refl)
    (λ k r. search (plainly, bio_parameters_law.plain k) depth 12) (λ r fits.
    puts_default (code_place modality_of modality_byte r.modality (search)) refl ▸
    puts_default (code_place sub_command_of sub_command_byte r.sub_command (search)) refl ▸
    puts_default (optional_place bio_parameters_law.back refl r.sub_command_params (search)) refl ▸
    puts_default (optional_place byte_back refl r.pin_uv_auth_protocol (search)) refl ▸
    puts_default (optional_place bytes_back refl r.pin_uv_auth_param (anything r.pin_uv_auth_param)) refl ▸
    puts_default (optional_place truth_back refl r.get_modality (anything r.get_modality)) refl ▸
    no_more)

-- ---- templates

pub template_info_law : IsNumbered 0 template_info
unfolding shortest_head
template_info_law = numbered_law 0 template_info (λ r. refl) (λ r. refl) (λ r. refl)
    (λ k r. search (plainly) depth 8) (λ r fits.
    puts_value bytes_back r.template_id (search) ▸
    puts_default (optional_place text_back refl r.template_friendly_name (anything r.template_friendly_name)) refl ▸
    no_more)

-- ---- responses

pub bio_response_law : IsNumberedAs normal_bio_response 2 bio_response
unfolding shortest_head
bio_response_law = numbered_law 2 bio_response (λ r. refl) (λ r. refl) (λ r. refl)
    (λ k r. search (plainly, list_plain (suc k), template_info_law.plain k) depth 14) (λ r fits.
    puts_default (code_place modality_of modality_byte r.modality (search)) refl ▸
    puts_default (code_place fingerprint_kind_of fingerprint_kind_byte r.fingerprint_kind (search)) refl ▸
    puts_default (optional_place word_back refl r.max_capture_samples_required_for_enroll (search)) refl ▸
    puts_default (optional_place bytes_back refl r.template_id (anything r.template_id)) refl ▸
    puts_default (code_place sample_status_of sample_status_byte r.last_enroll_sample_status (search)) refl ▸
    puts_default (optional_place word_back refl r.remaining_samples (search)) refl ▸
    puts_default (optional_place (list_same template_info_law.back) refl r.template_infos (search)) refl ▸
    puts_default (optional_place word_back refl r.max_template_friendly_name (search)) refl ▸
    no_more)
