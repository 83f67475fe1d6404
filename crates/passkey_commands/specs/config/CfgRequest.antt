-- authenticatorConfig requests (CTAP 2.1, section 6.11).
use Rattle.std.specs.Prelude.{List, None, Option, [], codes, option_map, ℕ, ◌∷◌}
use Rattle.passkey_commands.specs.config.SubCommand.{sub_command_of, sub_command_byte}
use Rattle.passkey_commands.specs.declared.config.request.Request.{Request}
use Rattle.passkey_commands.specs.declared.config.sub_command.SubCommand.TheVariants.{Other}
use Rattle.passkey_commands.specs.declared.config.sub_command.SubCommand.{SubCommand}
use Rattle.passkey_kinds.specs.Coded.{bytes}
use Rattle.passkey_kinds.specs.Numbered.{code, kept_item}
use Rattle.passkey_kinds.specs.Words.{Item, PlainTable, byte, optional_at, required_at}

abbrev pub cfg_request : PlainTable Request
cfg_request = record {
  blank = record { sub_command = Other 0; sub_command_params = None; pin_uv_auth_protocol = None; pin_uv_auth_param = None };
  members = required_at 1 (codes "subCommand") (code sub_command_of sub_command_byte) (λ r. r.sub_command)
      (λ x r. record r { sub_command = x })
      ∷ optional_at 2 (codes "subCommandParams") kept_item (λ r. r.sub_command_params)
      (λ x r. record r { sub_command_params = x })
      ∷ optional_at 3 (codes "pinUvAuthProtocol") byte (λ r. r.pin_uv_auth_protocol)
      (λ x r. record r { pin_uv_auth_protocol = x })
      ∷ optional_at 4 (codes "pinUvAuthParam") bytes (λ r. r.pin_uv_auth_param) (λ x r. record r { pin_uv_auth_param = x })
      ∷ [];
}

-- what the encoding decodes to: a value with the number of a named one becomes the named one
abbrev pub normal_cfg_request : Request → Request
normal_cfg_request r = record r {
  sub_command = sub_command_of (sub_command_byte r.sub_command);
}
