-- authenticatorBioEnrollment requests (CTAP 2.1, section 6.7).
use Rattle.std.specs.Prelude.{None, [], codes, option_map, ◌∷◌}
use Rattle.passkey_commands.specs.bio_enrollment.BioParameters.{bio_parameters}
use Rattle.passkey_commands.specs.bio_enrollment.Modality.{modality_of, modality_byte}
use Rattle.passkey_commands.specs.bio_enrollment.SubCommand.{sub_command_of, sub_command_byte}
use Rattle.passkey_commands.specs.declared.bio_enrollment.request.Request.{Request}
use Rattle.passkey_kinds.specs.Coded.{bytes, truth}
use Rattle.passkey_kinds.specs.Numbered.{code, numbered}
use Rattle.passkey_kinds.specs.Words.{PlainTable, byte, optional_at}

abbrev pub bio_request : PlainTable Request
bio_request = record {
  blank = record {
    modality = None;
    sub_command = None;
    sub_command_params = None;
    pin_uv_auth_protocol = None;
    pin_uv_auth_param = None;
    get_modality = None;
  };
  members = optional_at 1 (codes "modality") (code modality_of modality_byte) (λ r. r.modality)
      (λ x r. record r { modality = x })
      ∷ optional_at 2 (codes "subCommand") (code sub_command_of sub_command_byte) (λ r. r.sub_command)
      (λ x r. record r { sub_command = x })
      ∷ optional_at 3 (codes "subCommandParams") (numbered bio_parameters) (λ r. r.sub_command_params)
      (λ x r. record r { sub_command_params = x })
      ∷ optional_at 4 (codes "pinUvAuthProtocol") byte (λ r. r.pin_uv_auth_protocol)
      (λ x r. record r { pin_uv_auth_protocol = x })
      ∷ optional_at 5 (codes "pinUvAuthParam") bytes (λ r. r.pin_uv_auth_param) (λ x r. record r { pin_uv_auth_param = x })
      ∷ optional_at 6 (codes "getModality") truth (λ r. r.get_modality) (λ x r. record r { get_modality = x })
      ∷ [];
}

-- what the encoding decodes to: a value with the number of a named one becomes the named one
abbrev pub normal_bio_request : Request → Request
normal_bio_request r = record r {
  modality = option_map (λ x. modality_of (modality_byte x)) r.modality;
  sub_command = option_map (λ x. sub_command_of (sub_command_byte x)) r.sub_command;
}
