-- Parameters of subcommands of authenticatorBioEnrollment (CTAP 2.1, section 6.7).
use Rattle.std.specs.Prelude.{None, [], codes, ◌∷◌}
use Rattle.passkey_commands.specs.declared.bio_enrollment.parameters.Parameters.{Parameters}
use Rattle.passkey_kinds.specs.Coded.{bytes, text}
use Rattle.passkey_kinds.specs.Words.{PlainTable, optional_at, word}

abbrev pub bio_parameters : PlainTable Parameters
bio_parameters = record {
  blank = record { template_id = None; template_friendly_name = None; timeout_milliseconds = None };
  members = optional_at 1 (codes "templateId") bytes (λ r. r.template_id) (λ x r. record r { template_id = x })
      ∷ optional_at 2 (codes "templateFriendlyName") text (λ r. r.template_friendly_name)
      (λ x r. record r { template_friendly_name = x })
      ∷ optional_at 3 (codes "timeoutMilliseconds") word (λ r. r.timeout_milliseconds)
      (λ x r. record r { timeout_milliseconds = x })
      ∷ [];
}
