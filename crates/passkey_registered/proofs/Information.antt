-- authenticatorGetInfo responses: decoding their encodings again, their nesting levels, and their canonical form.
use Rattle.passkey_attestation.proofs.Statements.{identifier_back}
use Rattle.passkey_registered.specs.get_info.CredentialParameters.{credential_parameters}
use Rattle.passkey_registered.specs.get_info.Information.{information}
use Rattle.passkey_registered.specs.get_info.Options.{options}
use Rattle.passkey_cbor.specs.Item.{boolean, byte_string}
use Rattle.passkey_kinds.proofs.Back.{Puts}
use Rattle.passkey_kinds.proofs.Numbered.{IsKeeping, keeping_law, long_back, not_null_around, not_null_back}
use Rattle.passkey_kinds.proofs.Steps.{◌≡◌, ◌<◌, ◌^◌, ℕ, Bool, Entry, IfPresent, IsLawful, List, None, Option, aaguid_back, accepted_place, all_of_anything, anything, arith, byte_back, bytes_back, lawful, list_plain, list_same, no_more, number_tree, option_map, optional_keeps, optional_place, plainly, puts_default, puts_value, refl, shortest_head, text_back, truth_back, ◌▸◌}
use Rattle.passkey_kinds.specs.Coded.{bytes, truth}
use Rattle.passkey_kinds.specs.Numbered.{long}
use Rattle.passkey_kinds.specs.Typed.{optional}

pub parameters_law : IsLawful 0 credential_parameters
unfolding shortest_head
parameters_law = lawful 0 credential_parameters (λ p. refl) (λ p. refl) (λ p. refl) (λ k p. search (plainly)) (λ p fits.
    puts_value identifier_back p.alg (search) ▸
    puts_value text_back p.ty tt ▸
    no_more)

-- what the rows of these kinds put, also those with another name
module _ {P : Type 0} {entry : Entry} {old : P} where
  flag_row : {set : Option Bool → P → P} (o : Option Bool) → set None old ≡ old
      → Puts (record { Of = Option Bool; entry = entry; kind = optional truth.typed; set = set }) (option_map boolean o) old
      (set o old)
  flag_row o same = puts_default (optional_place truth_back refl o (anything o)) same

  bytes_row : {set : Option (List ℕ) → P → P} (o : Option (List ℕ)) → set None old ≡ old
      → Puts (record { Of = Option (List ℕ); entry = entry; kind = optional bytes.typed; set = set })
      (option_map byte_string o) old (set o old)
  bytes_row o same = puts_default (optional_place bytes_back refl o (anything o)) same

  long_row : {set : Option ℕ → P → P} (o : Option ℕ) → IfPresent (λ n. n < 2 ^ 64) o → set None old ≡ old
      → Puts (record { Of = Option ℕ; entry = entry; kind = optional long.typed; set = set }) (option_map number_tree o) old
      (set o old)
  long_row o fits same = puts_default (optional_place long_back refl o fits) same

pub options_law : IsLawful 0 options
unfolding shortest_head
options_law = lawful 0 options (λ o. refl) (λ o. refl) (λ o. refl) (λ k o. search plainly depth 25) (λ o fits.
    flag_row _ refl ▸ flag_row _ refl ▸ flag_row _ refl ▸ flag_row _ refl ▸ flag_row _ refl ▸ flag_row _ refl ▸
    flag_row _ refl ▸ flag_row _ refl ▸ flag_row _ refl ▸ flag_row _ refl ▸ flag_row _ refl ▸ flag_row _ refl ▸
    flag_row _ refl ▸ flag_row _ refl ▸ flag_row _ refl ▸ flag_row _ refl ▸ flag_row _ refl ▸ flag_row _ refl ▸
    flag_row _ refl ▸ flag_row _ refl ▸ no_more)

pub information_law : IsKeeping (λ r. r) information (λ r. r.certifications)
unfolding shortest_head
information_law = keeping_law information 2 19 (omega arith) (λ r. refl) (λ r. refl) (λ r. refl)
    (λ Q rule r key. search (rule.holds, plainly, list_plain 1, options_law.plain 1, parameters_law.plain 0) depth 37)
    (λ Q r each. search) (λ m. tt)
    (λ m i less. search (optional_keeps not_null_around) depth 44 parts 44) (λ r fits.
    puts_value (list_same text_back) r.versions (λ k d less. tt) ▸
    puts_default (optional_place (list_same text_back) refl r.extensions (all_of_anything r.extensions)) refl ▸
    puts_value aaguid_back r.aaguid.0 (search) ▸
    puts_default (optional_place options_law.back refl r.options (search)) refl ▸
    long_row _ (search) refl ▸
    puts_default (optional_place (list_same byte_back) refl r.pin_uv_auth_protocols (search)) refl ▸
    long_row _ (search) refl ▸ long_row _ (search) refl ▸
    puts_default (accepted_place text_back r.transports (all_of_anything r.transports)) refl ▸
    puts_default (accepted_place parameters_law.back r.algorithms (search)) refl ▸
    long_row _ (search) refl ▸ flag_row _ refl ▸ long_row _ (search) refl ▸ long_row _ (search) refl ▸
    long_row _ (search) refl ▸ long_row _ (search) refl ▸ long_row _ (search) refl ▸ long_row _ (search) refl ▸
    puts_default (optional_place not_null_back refl r.certifications (search)) refl ▸
    long_row _ (search) refl ▸
    puts_default (accepted_place long_back r.vendor_prototype_config_commands (search)) refl ▸
    puts_default (accepted_place text_back r.attestation_formats (all_of_anything r.attestation_formats)) refl ▸
    long_row _ (search) refl ▸ flag_row _ refl ▸ bytes_row _ refl ▸
    puts_default (accepted_place text_back r.transports_for_reset (all_of_anything r.transports_for_reset)) refl ▸
    flag_row _ refl ▸ bytes_row _ refl ▸ long_row _ (search) refl ▸ bytes_row _ refl ▸
    puts_default (optional_place (list_same byte_back) refl r.authenticator_config_commands (search)) refl ▸
    no_more)
