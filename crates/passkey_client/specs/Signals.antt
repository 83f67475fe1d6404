-- The arguments of the signals (WebAuthn Level 3, section 5.1.10), over JSON.
use Rattle.std.specs.Prelude.{[], ◌∷◌, codes, refl}
use Rattle.passkey_json.specs.Coded.{bytes_value, list_value, text_value}
use Rattle.passkey_json.specs.Table.{PlainTable, required_as}
use Rattle.passkey_client.specs.declared.signals.AllAcceptedCredentialsOptions.{AllAcceptedCredentialsOptions}
use Rattle.passkey_client.specs.declared.signals.CurrentUserDetailsOptions.{CurrentUserDetailsOptions}
use Rattle.passkey_client.specs.declared.signals.UnknownCredentialOptions.{UnknownCredentialOptions}

-- section 5.1.10.2
abbrev pub unknown_credential : PlainTable UnknownCredentialOptions
unknown_credential = record {
  blank = record { rp_id = []; credential_id = [] };
  members = required_as 1 (codes "rpId") text_value (λ r. r.rp_id) (λ v r. record r { rp_id = v })
      ∷ required_as 2 (codes "credentialId") bytes_value
      (λ r. r.credential_id) (λ v r. record r { credential_id = v })
      ∷ [];
  sound = λ r. (refl, refl);
}

-- section 5.1.10.3
abbrev pub all_accepted_credentials : PlainTable AllAcceptedCredentialsOptions
all_accepted_credentials = record {
  blank = record { rp_id = []; user_id = []; all_accepted_credential_ids = [] };
  members = required_as 1 (codes "rpId") text_value (λ r. r.rp_id) (λ v r. record r { rp_id = v })
      ∷ required_as 2 (codes "userId") bytes_value (λ r. r.user_id) (λ v r. record r { user_id = v })
      ∷ required_as 3 (codes "allAcceptedCredentialIds") (list_value bytes_value)
      (λ r. r.all_accepted_credential_ids) (λ v r. record r { all_accepted_credential_ids = v })
      ∷ [];
  sound = λ r. (refl, refl);
}

-- section 5.1.10.4
abbrev pub current_user_details : PlainTable CurrentUserDetailsOptions
current_user_details = record {
  blank = record { rp_id = []; user_id = []; name = []; display_name = [] };
  members = required_as 1 (codes "rpId") text_value (λ r. r.rp_id) (λ v r. record r { rp_id = v })
      ∷ required_as 2 (codes "userId") bytes_value (λ r. r.user_id) (λ v r. record r { user_id = v })
      ∷ required_as 3 (codes "name") text_value (λ r. r.name) (λ v r. record r { name = v })
      ∷ required_as 4 (codes "displayName") text_value
      (λ r. r.display_name) (λ v r. record r { display_name = v })
      ∷ [];
  sound = λ r. (refl, refl);
}
