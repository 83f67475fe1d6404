-- authenticatorBioEnrollment responses (CTAP 2.1, section 6.7).
use Rattle.std.specs.Prelude.{None, [], codes, option_map, ◌∷◌}
use Rattle.passkey_commands.specs.bio_enrollment.FingerprintKind.{fingerprint_kind_of, fingerprint_kind_byte}
use Rattle.passkey_commands.specs.bio_enrollment.Modality.{modality_of, modality_byte}
use Rattle.passkey_commands.specs.bio_enrollment.SampleStatus.{sample_status_of, sample_status_byte}
use Rattle.passkey_commands.specs.bio_enrollment.TemplateInfo.{template_info}
use Rattle.passkey_commands.specs.declared.bio_enrollment.response.Response.{Response}
use Rattle.passkey_kinds.specs.Coded.{bytes, list_of}
use Rattle.passkey_kinds.specs.Numbered.{code, numbered}
use Rattle.passkey_kinds.specs.Words.{PlainTable, optional_at, word}

abbrev pub bio_response : PlainTable Response
bio_response = record {
  blank = record {
    modality = None;
    fingerprint_kind = None;
    max_capture_samples_required_for_enroll = None;
    template_id = None;
    last_enroll_sample_status = None;
    remaining_samples = None;
    template_infos = None;
    max_template_friendly_name = None;
  };
  members = optional_at 1 (codes "modality") (code modality_of modality_byte) (λ r. r.modality)
      (λ x r. record r { modality = x })
      ∷ optional_at 2 (codes "fingerprintKind") (code fingerprint_kind_of fingerprint_kind_byte) (λ r. r.fingerprint_kind)
      (λ x r. record r { fingerprint_kind = x })
      ∷ optional_at 3 (codes "maxCaptureSamplesRequiredForEnroll") word (λ r. r.max_capture_samples_required_for_enroll)
      (λ x r. record r { max_capture_samples_required_for_enroll = x })
      ∷ optional_at 4 (codes "templateId") bytes (λ r. r.template_id) (λ x r. record r { template_id = x })
      ∷ optional_at 5 (codes "lastEnrollSampleStatus") (code sample_status_of sample_status_byte) (λ r. r.last_enroll_sample_status)
      (λ x r. record r { last_enroll_sample_status = x })
      ∷ optional_at 6 (codes "remainingSamples") word (λ r. r.remaining_samples) (λ x r. record r { remaining_samples = x })
      ∷ optional_at 7 (codes "templateInfos") (list_of (numbered template_info)) (λ r. r.template_infos)
      (λ x r. record r { template_infos = x })
      ∷ optional_at 8 (codes "maxTemplateFriendlyName") word (λ r. r.max_template_friendly_name)
      (λ x r. record r { max_template_friendly_name = x })
      ∷ [];
}

-- what the encoding decodes to: a value with the number of a named one becomes the named one
abbrev pub normal_bio_response : Response → Response
normal_bio_response r = record r {
  modality = option_map (λ x. modality_of (modality_byte x)) r.modality;
  fingerprint_kind = option_map (λ x. fingerprint_kind_of (fingerprint_kind_byte x)) r.fingerprint_kind;
  last_enroll_sample_status = option_map (λ x. sample_status_of (sample_status_byte x)) r.last_enroll_sample_status;
}
