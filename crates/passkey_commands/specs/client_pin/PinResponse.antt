-- authenticatorClientPIN responses (CTAP 2.1, section 6.5.5).
use Rattle.std.specs.Prelude.{ℕ, Bool, List, [], ◌∷◌, Option, None, option_map, codes}
use Rattle.passkey_commands.specs.declared.client_pin.response.Response.{Response}
use Rattle.passkey_kinds.specs.Coded.{bytes, truth}
use Rattle.passkey_kinds.specs.Numbered.{kept_item}
use Rattle.passkey_kinds.specs.Words.{Item, PlainTable, word, optional_at}

abbrev pub pin_response : PlainTable Response
pin_response = record {
  blank = record {
    key_agreement = None;
    pin_uv_auth_token = None;
    pin_retries = None;
    power_cycle_state = None;
    uv_retries = None;
  };
  members = optional_at 1 (codes "keyAgreement") kept_item (λ r. r.key_agreement) (λ x r. record r { key_agreement = x })
      ∷ optional_at 2 (codes "pinUvAuthToken") bytes (λ r. r.pin_uv_auth_token) (λ x r. record r { pin_uv_auth_token = x })
      ∷ optional_at 3 (codes "pinRetries") word (λ r. r.pin_retries) (λ x r. record r { pin_retries = x })
      ∷ optional_at 4 (codes "powerCycleState") truth (λ r. r.power_cycle_state) (λ x r. record r { power_cycle_state = x })
      ∷ optional_at 5 (codes "uvRetries") word (λ r. r.uv_retries) (λ x r. record r { uv_retries = x })
      ∷ [];
}
