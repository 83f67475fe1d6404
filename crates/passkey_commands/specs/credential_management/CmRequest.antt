-- authenticatorCredentialManagement requests (CTAP 2.1, section 6.8).
use Rattle.std.specs.Prelude.{None, [], codes, ◌∷◌}
use Rattle.passkey_commands.specs.credential_management.CmParameters.{cm_parameters}
use Rattle.passkey_commands.specs.credential_management.SubCommand.{sub_command_of, sub_command_byte}
use Rattle.passkey_commands.specs.declared.credential_management.request.Request.{Request}
use Rattle.passkey_commands.specs.declared.credential_management.sub_command.SubCommand.TheVariants.{GetCredsMetadata}
use Rattle.passkey_kinds.specs.Coded.{bytes}
use Rattle.passkey_kinds.specs.Numbered.{code, numbered}
use Rattle.passkey_kinds.specs.Words.{PlainTable, byte, optional_at, required_at}

abbrev pub cm_request : PlainTable Request
cm_request = record {
  blank = record { sub_command = GetCredsMetadata; sub_command_params = None; pin_uv_auth_protocol = None; pin_uv_auth_param = None };
  members = required_at 1 (codes "subCommand") (code sub_command_of sub_command_byte) (λ r. r.sub_command)
      (λ x r. record r { sub_command = x })
      ∷ optional_at 2 (codes "subCommandParams") (numbered cm_parameters) (λ r. r.sub_command_params)
      (λ x r. record r { sub_command_params = x })
      ∷ optional_at 3 (codes "pinUvAuthProtocol") byte (λ r. r.pin_uv_auth_protocol)
      (λ x r. record r { pin_uv_auth_protocol = x })
      ∷ optional_at 4 (codes "pinUvAuthParam") bytes (λ r. r.pin_uv_auth_param) (λ x r. record r { pin_uv_auth_param = x })
      ∷ [];
}

-- what the encoding decodes to: a value with the number of a named one becomes the named one
abbrev pub normal_cm_request : Request → Request
normal_cm_request r = record r {
  sub_command = sub_command_of (sub_command_byte r.sub_command);
}
