-- The request of authenticatorConfig, and parameters of its subcommands: decoding their encodings again, their nesting levels, and their canonical form.
use Rattle.passkey_kinds.proofs.Numbered.{code_back, long_back, not_null_back, not_null_around, numbered_law, keeping_law, IsKeeping, IsNumbered}
use Rattle.passkey_kinds.proofs.Steps.{optional_keeps, arith, shortest_head, truth_back, plainly, list_plain, puts_value, puts_default, no_more, ◌▸◌, refl, byte_back, word_back, text_back, bytes_back, anything, all_of_anything, optional_place, list_same, ℕ, ◌≡◌}
use Rattle.passkey_commands.specs.config.SubCommand.{sub_command_of, sub_command_byte}
use Rattle.passkey_commands.specs.config.CfgRequest.{cfg_request, normal_cfg_request}
use Rattle.passkey_commands.specs.config.MinPinLengthParameters.{min_pin_length_parameters}
use Rattle.passkey_commands.specs.config.VendorParameters.{vendor_parameters}

-- ---- requests

pub cfg_request_law : IsKeeping normal_cfg_request cfg_request (λ r. r.sub_command_params)
unfolding shortest_head
cfg_request_law = keeping_law cfg_request 0 2 (omega arith) (λ p. refl) (λ p. refl) (λ p. refl)
    (λ Q rule p key. search (rule.holds, plainly) depth 10) (λ Q p each. each.1.0) (λ m. tt)
    (λ m i less. search (optional_keeps not_null_around) depth 9 parts 9) (λ p fits.
    puts_value (code_back sub_command_of sub_command_byte) p.sub_command (search) ▸
    puts_default (optional_place not_null_back refl p.sub_command_params (search)) refl ▸
    puts_default (optional_place byte_back refl p.pin_uv_auth_protocol (search)) refl ▸
    puts_default (optional_place bytes_back refl p.pin_uv_auth_param (anything p.pin_uv_auth_param)) refl ▸
    no_more)

-- ---- parameters of setMinPINLength

pub min_pin_length_parameters_law : IsNumbered 1 min_pin_length_parameters
unfolding shortest_head
min_pin_length_parameters_law = numbered_law 1 min_pin_length_parameters (λ r. refl) (λ r. refl) (λ r. refl)
    (λ k r. search (plainly, list_plain k) depth 10) (λ r fits.
    puts_default (optional_place word_back refl r.new_min_pin_length (search)) refl ▸
    puts_default (optional_place (list_same text_back) refl r.min_pin_length_rp_ids (all_of_anything r.min_pin_length_rp_ids)) refl ▸
    puts_default (optional_place truth_back refl r.force_change_pin (anything r.force_change_pin)) refl ▸
    puts_default (optional_place truth_back refl r.pin_complexity_policy (anything r.pin_complexity_policy)) refl ▸
    no_more)

-- ---- parameters of vendorPrototype

pub vendor_parameters_law : IsNumbered 0 vendor_parameters
unfolding shortest_head
vendor_parameters_law = numbered_law 0 vendor_parameters (λ r. refl) (λ r. refl) (λ r. refl)
    (λ k r. search (plainly) depth 7) (λ r fits.
    puts_value long_back r.vendor_command_id (search) ▸
    no_more)
