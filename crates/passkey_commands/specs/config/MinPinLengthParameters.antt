-- Parameters of setMinPINLength (CTAP 2.1, section 6.11.4).
use Rattle.std.specs.Prelude.{None, [], codes, ◌∷◌}
use Rattle.passkey_commands.specs.declared.config.min_pin_length_parameters.MinPinLengthParameters.{MinPinLengthParameters}
use Rattle.passkey_kinds.specs.Coded.{list_of, text, truth}
use Rattle.passkey_kinds.specs.Words.{PlainTable, optional_at, word}

abbrev pub min_pin_length_parameters : PlainTable MinPinLengthParameters
min_pin_length_parameters = record {
  blank = record {
    new_min_pin_length = None;
    min_pin_length_rp_ids = None;
    force_change_pin = None;
    pin_complexity_policy = None;
  };
  members = optional_at 1 (codes "newMinPINLength") word (λ r. r.new_min_pin_length) (λ x r. record r { new_min_pin_length = x })
      ∷ optional_at 2 (codes "minPinLengthRPIDs") (list_of text) (λ r. r.min_pin_length_rp_ids)
      (λ x r. record r { min_pin_length_rp_ids = x })
      ∷ optional_at 3 (codes "forceChangePin") truth (λ r. r.force_change_pin) (λ x r. record r { force_change_pin = x })
      ∷ optional_at 4 (codes "pinComplexityPolicy") truth (λ r. r.pin_complexity_policy)
      (λ x r. record r { pin_complexity_policy = x })
      ∷ [];
}
