-- A relying party's requirements for the authenticator (WebAuthn Level 3, section 5.4.4).
use Rattle.std.specs.Prelude.{[], ◌∷◌, None, codes, false, refl}
use Rattle.passkey_json.specs.Coded.{truth_text_value}
use Rattle.passkey_json.specs.Requirements.{attachment_value, resident_key_value, user_verification_value}
use Rattle.passkey_json.specs.Table.{PlainTable, default_as, tolerated_as, tolerated_optional_as}
use Rattle.passkey_json.specs.declared.selection_criteria.AuthenticatorSelectionCriteria.{AuthenticatorSelectionCriteria}
use Rattle.passkey_json.specs.declared.requirements.UserVerificationRequirement.TheVariants.{Preferred}

-- any authenticator, with user verification preferred
abbrev pub any_authenticator : AuthenticatorSelectionCriteria
any_authenticator = record {
  authenticator_attachment = None;
  resident_key = None;
  require_resident_key = false;
  user_verification = Preferred;
}

abbrev pub selection_criteria : PlainTable AuthenticatorSelectionCriteria
selection_criteria = record {
  blank = any_authenticator;
  members = tolerated_optional_as 1 (codes "authenticatorAttachment") attachment_value
      (λ c. c.authenticator_attachment) (λ v c. record c { authenticator_attachment = v })
      ∷ tolerated_optional_as 2 (codes "residentKey") resident_key_value
      (λ c. c.resident_key) (λ v c. record c { resident_key = v })
      ∷ default_as 3 (codes "requireResidentKey") truth_text_value false
      (λ c. c.require_resident_key) (λ v c. record c { require_resident_key = v })
      ∷ tolerated_as 4 (codes "userVerification") user_verification_value Preferred
      (λ c. c.user_verification) (λ v c. record c { user_verification = v })
      ∷ [];
  sound = λ c. (refl, refl);
}
