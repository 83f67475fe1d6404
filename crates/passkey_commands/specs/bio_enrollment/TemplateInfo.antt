-- Enrolled fingerprint templates (CTAP 2.1, section 6.7).
use Rattle.std.specs.Prelude.{None, [], codes, ◌∷◌}
use Rattle.passkey_commands.specs.declared.bio_enrollment.template_info.TemplateInfo.{TemplateInfo}
use Rattle.passkey_kinds.specs.Coded.{bytes, text}
use Rattle.passkey_kinds.specs.Words.{PlainTable, optional_at, required_at}

abbrev pub template_info : PlainTable TemplateInfo
template_info = record {
  blank = record { template_id = []; template_friendly_name = None };
  members = required_at 1 (codes "templateId") bytes (λ r. r.template_id) (λ x r. record r { template_id = x })
      ∷ optional_at 2 (codes "templateFriendlyName") text (λ r. r.template_friendly_name)
      (λ x r. record r { template_friendly_name = x })
      ∷ [];
}
