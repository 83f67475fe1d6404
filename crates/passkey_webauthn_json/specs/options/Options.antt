-- What a page asks of the browser, over JSON: the options of both ceremonies.
use Rattle.std.specs.Prelude.{[], ◌∷◌, None, codes, refl}
use Rattle.passkey_json.specs.Coded.{bytes_value, text_value, word_value}
use Rattle.passkey_json.specs.Extensions.{client_inputs}
use Rattle.passkey_json.specs.SelectionCriteria.{selection_criteria}
use Rattle.passkey_json.specs.Table.{PlainTable, nested, accepted_as, optional_as, or_as, present_as, required_as, required_list_as, tolerated_as, tolerated_optional_as}
use Rattle.passkey_json.specs.Requirements.{user_verification_value}
use Rattle.passkey_json.specs.WebAuthn.{descriptor, parameters, rp, user}
use Rattle.passkey_json.specs.declared.requirements.UserVerificationRequirement.TheVariants.{Preferred}
use Rattle.passkey_webauthn_json.specs.options.Preferences.{conveyance_value, format_value, hint_value}
use Rattle.passkey_webauthn_json.specs.declared.options.preferences.AttestationConveyancePreference.TheVariants.{None as NoAttestation}
use Rattle.passkey_webauthn_json.specs.declared.options.creation_options.PublicKeyCredentialCreationOptions.{PublicKeyCredentialCreationOptions}
use Rattle.passkey_webauthn_json.specs.declared.options.arguments.CredentialOptions.{CredentialOptions}
use Rattle.passkey_webauthn_json.specs.declared.options.request_options.PublicKeyCredentialRequestOptions.{PublicKeyCredentialRequestOptions}

-- the options of a registration (WebAuthn Level 3, section 5.4)
abbrev pub creation_options : PlainTable PublicKeyCredentialCreationOptions
creation_options = record {
  blank = record {
    rp = rp.blank;
    user = user.blank;
    challenge = [];
    pub_key_cred_params = [];
    timeout = None;
    exclude_credentials = None;
    authenticator_selection = None;
    hints = None;
    attestation = NoAttestation;
    attestation_formats = None;
    extensions = None;
  };
  members = required_as 1 (codes "rp") (nested rp) (λ o. o.rp) (λ v o. record o { rp = v })
      ∷ required_as 2 (codes "user") (nested user) (λ o. o.user) (λ v o. record o { user = v })
      ∷ required_as 3 (codes "challenge") bytes_value (λ o. o.challenge) (λ v o. record o { challenge = v })
      ∷ required_list_as 4 (codes "pubKeyCredParams") (nested parameters)
      (λ o. o.pub_key_cred_params) (λ v o. record o { pub_key_cred_params = v })
      ∷ present_as 5 (codes "timeout") word_value (λ o. o.timeout) (λ v o. record o { timeout = v })
      ∷ accepted_as 6 (codes "excludeCredentials") (nested descriptor)
      (λ o. o.exclude_credentials) (λ v o. record o { exclude_credentials = v })
      ∷ optional_as 7 (codes "authenticatorSelection") (nested selection_criteria)
      (λ o. o.authenticator_selection) (λ v o. record o { authenticator_selection = v })
      ∷ accepted_as 8 (codes "hints") hint_value (λ o. o.hints) (λ v o. record o { hints = v })
      ∷ tolerated_as 9 (codes "attestation") conveyance_value NoAttestation
      (λ o. o.attestation) (λ v o. record o { attestation = v })
      ∷ accepted_as 10 (codes "attestationFormats") format_value
      (λ o. o.attestation_formats) (λ v o. record o { attestation_formats = v })
      ∷ optional_as 11 (codes "extensions") (nested client_inputs)
      (λ o. o.extensions) (λ v o. record o { extensions = v })
      ∷ [];
  sound = λ o. (refl, refl);
}

-- the options of a sign-in (WebAuthn Level 3, section 5.5)
abbrev pub request_options : PlainTable PublicKeyCredentialRequestOptions
request_options = record {
  blank = record {
    challenge = [];
    timeout = None;
    rp_id = None;
    allow_credentials = None;
    user_verification = Preferred;
    hints = None;
    attestation = NoAttestation;
    attestation_formats = None;
    extensions = None;
  };
  members = required_as 1 (codes "challenge") bytes_value (λ o. o.challenge) (λ v o. record o { challenge = v })
      ∷ present_as 2 (codes "timeout") word_value (λ o. o.timeout) (λ v o. record o { timeout = v })
      ∷ optional_as 3 (codes "rpId") text_value (λ o. o.rp_id) (λ v o. record o { rp_id = v })
      ∷ or_as (codes "allowList") (accepted_as 4 (codes "allowCredentials") (nested descriptor)
      (λ o. o.allow_credentials) (λ v o. record o { allow_credentials = v }))
      ∷ tolerated_as 5 (codes "userVerification") user_verification_value Preferred
      (λ o. o.user_verification) (λ v o. record o { user_verification = v })
      ∷ accepted_as 6 (codes "hints") hint_value (λ o. o.hints) (λ v o. record o { hints = v })
      ∷ tolerated_as 7 (codes "attestation") conveyance_value NoAttestation
      (λ o. o.attestation) (λ v o. record o { attestation = v })
      ∷ accepted_as 8 (codes "attestationFormats") format_value
      (λ o. o.attestation_formats) (λ v o. record o { attestation_formats = v })
      ∷ tolerated_optional_as 9 (codes "extensions") (nested client_inputs)
      (λ o. o.extensions) (λ v o. record o { extensions = v })
      ∷ [];
  sound = λ o. (refl, refl);
}

-- the argument of a call with options of this table
abbrev pub credential_options : {O : Type 0} → PlainTable O → PlainTable (CredentialOptions O)
credential_options options = record {
  blank = record { public_key = options.blank };
  members = required_as 1 (codes "publicKey") (nested options)
      (λ c. c.public_key) (λ v c. record c { public_key = v })
      ∷ [];
  sound = λ c. (refl, refl);
}

-- the argument of `navigator.credentials.create()` (WebAuthn Level 3, section 5.1.1)
abbrev pub credential_creation : PlainTable (CredentialOptions PublicKeyCredentialCreationOptions)
credential_creation = credential_options creation_options

-- the argument of `navigator.credentials.get()` (WebAuthn Level 3, section 5.1.2)
abbrev pub credential_request : PlainTable (CredentialOptions PublicKeyCredentialRequestOptions)
credential_request = credential_options request_options
