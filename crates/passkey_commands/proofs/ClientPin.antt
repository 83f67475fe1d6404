-- Messages of authenticatorClientPIN: decoding their encodings again, their nesting levels, and their canonical form.
use Rattle.passkey_kinds.proofs.Numbered.{code_back, not_null_back, not_null_around, keeping_law, IsKeeping}
use Rattle.passkey_kinds.proofs.Steps.{optional_keeps, arith, shortest_head, truth_back, plainly, puts_value, puts_default, no_more, ◌▸◌, refl, byte_back, word_back, text_back, bytes_back, anything, optional_place}
use Rattle.passkey_commands.specs.client_pin.PinRequest.{pin_request, normal_pin_request}
use Rattle.passkey_commands.specs.client_pin.PinResponse.{pin_response}
use Rattle.passkey_commands.specs.client_pin.SubCommand.{sub_command_of, sub_command_byte}
use Rattle.std.proofs.Common.{ℕ, ◌≡◌}

-- ---- requests

pub request_law : IsKeeping normal_pin_request pin_request (λ r. r.key_agreement)
unfolding shortest_head
request_law = keeping_law pin_request 0 3 (omega arith) (λ p. refl) (λ p. refl) (λ p. refl)
    (λ Q rule p key. search (rule.holds, plainly) depth 13) (λ Q p each. each.1.1.0) (λ m. tt)
    (λ m i less. search (optional_keeps not_null_around) depth 13 parts 13) (λ p fits.
    puts_default (optional_place byte_back refl p.pin_uv_auth_protocol (search)) refl ▸
    puts_value (code_back sub_command_of sub_command_byte) p.sub_command (search) ▸
    puts_default (optional_place not_null_back refl p.key_agreement (search)) refl ▸
    puts_default (optional_place bytes_back refl p.pin_uv_auth_param (anything p.pin_uv_auth_param)) refl ▸
    puts_default (optional_place bytes_back refl p.new_pin_enc (anything p.new_pin_enc)) refl ▸
    puts_default (optional_place bytes_back refl p.pin_hash_enc (anything p.pin_hash_enc)) refl ▸
    puts_default (optional_place word_back refl p.permissions (search)) refl ▸
    puts_default (optional_place text_back refl p.rp_id (anything p.rp_id)) refl ▸
    no_more)

-- ---- responses

pub response_law : IsKeeping (λ r. r) pin_response (λ r. r.key_agreement)
unfolding shortest_head
response_law = keeping_law pin_response 0 1 (omega arith) (λ p. refl) (λ p. refl) (λ p. refl)
    (λ Q rule p key. search (rule.holds, plainly) depth 13) (λ Q p each. each.0) (λ m. tt)
    (λ m i less. search (optional_keeps not_null_around) depth 13 parts 13) (λ p fits.
    puts_default (optional_place not_null_back refl p.key_agreement (search)) refl ▸
    puts_default (optional_place bytes_back refl p.pin_uv_auth_token (anything p.pin_uv_auth_token)) refl ▸
    puts_default (optional_place word_back refl p.pin_retries (search)) refl ▸
    puts_default (optional_place truth_back refl p.power_cycle_state (anything p.power_cycle_state)) refl ▸
    puts_default (optional_place word_back refl p.uv_retries (search)) refl ▸
    no_more)
