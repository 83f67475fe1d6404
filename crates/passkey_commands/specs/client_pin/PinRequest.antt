-- authenticatorClientPIN requests (CTAP 2.1, section 6.5.5).
use Rattle.std.specs.Prelude.{ℕ, List, [], ◌∷◌, Option, None, option_map, codes}
use Rattle.passkey_commands.specs.client_pin.SubCommand.{sub_command_of, sub_command_byte}
use Rattle.passkey_commands.specs.declared.client_pin.request.Request.{Request}
use Rattle.passkey_commands.specs.declared.client_pin.sub_command.SubCommand.{SubCommand}
use Rattle.passkey_commands.specs.declared.client_pin.sub_command.SubCommand.TheVariants.{GetPinRetries}
use Rattle.passkey_kinds.specs.Coded.{text, bytes}
use Rattle.passkey_kinds.specs.Numbered.{code, kept_item}
use Rattle.passkey_kinds.specs.Words.{Item, PlainTable, byte, word, required_at, optional_at}

abbrev pub pin_request : PlainTable Request
pin_request = record {
  blank = record {
    pin_uv_auth_protocol = None;
    sub_command = GetPinRetries;
    key_agreement = None;
    pin_uv_auth_param = None;
    new_pin_enc = None;
    pin_hash_enc = None;
    permissions = None;
    rp_id = None;
  };
  members = optional_at 1 (codes "pinUvAuthProtocol") byte (λ r. r.pin_uv_auth_protocol)
      (λ x r. record r { pin_uv_auth_protocol = x })
      ∷ required_at 2 (codes "subCommand") (code sub_command_of sub_command_byte) (λ r. r.sub_command)
      (λ x r. record r { sub_command = x })
      ∷ optional_at 3 (codes "keyAgreement") kept_item (λ r. r.key_agreement) (λ x r. record r { key_agreement = x })
      ∷ optional_at 4 (codes "pinUvAuthParam") bytes (λ r. r.pin_uv_auth_param) (λ x r. record r { pin_uv_auth_param = x })
      ∷ optional_at 5 (codes "newPinEnc") bytes (λ r. r.new_pin_enc) (λ x r. record r { new_pin_enc = x })
      ∷ optional_at 6 (codes "pinHashEnc") bytes (λ r. r.pin_hash_enc) (λ x r. record r { pin_hash_enc = x })
      ∷ optional_at 9 (codes "permissions") word (λ r. r.permissions) (λ x r. record r { permissions = x })
      ∷ optional_at 10 (codes "rpId") text (λ r. r.rp_id) (λ x r. record r { rp_id = x })
      ∷ [];
}

-- the request that the encoding decodes to: a subcommand with a known number becomes the known one
abbrev pub normal_pin_request : Request → Request
normal_pin_request r = record r { sub_command = sub_command_of (sub_command_byte r.sub_command) }
