-- Inputs and outputs of client extensions (WebAuthn Level 3, section 9).
use Rattle.std.specs.Prelude.{[], ◌∷◌, Bool, ◌||◌, Option, Some, None, is_some, codes, if◌then◌else◌, refl}
use Rattle.passkey_json.specs.Coded.{map_value, truth_value}
use Rattle.passkey_json.specs.Table.{PlainTable, nested, optional_as}
use Rattle.passkey_json.specs.WebAuthn.{prf_outputs, prf_values}
use Rattle.passkey_json.specs.declared.extensions.AuthenticationExtensionsClientInputs.{AuthenticationExtensionsClientInputs}
use Rattle.passkey_json.specs.declared.extensions.AuthenticationExtensionsClientOutputs.{AuthenticationExtensionsClientOutputs}
use Rattle.passkey_json.specs.declared.extensions.CredentialPropertiesOutput.{CredentialPropertiesOutput}
use Rattle.passkey_json.specs.declared.extensions.AuthenticationExtensionsPrfInputs.{AuthenticationExtensionsPrfInputs}

abbrev pub no_prf_inputs : AuthenticationExtensionsPrfInputs
no_prf_inputs = record { eval = None; eval_by_credential = None }

-- inputs of the extension prf (WebAuthn Level 3, section 10.1.4)
abbrev pub prf_inputs : PlainTable AuthenticationExtensionsPrfInputs
prf_inputs = record {
  blank = no_prf_inputs;
  members = optional_as 1 (codes "eval") (nested prf_values) (λ p. p.eval) (λ v p. record p { eval = v })
      ∷ optional_as 2 (codes "evalByCredential") (map_value (nested prf_values))
      (λ p. p.eval_by_credential) (λ v p. record p { eval_by_credential = v })
      ∷ [];
  sound = λ p. (refl, refl);
}

abbrev pub no_inputs : AuthenticationExtensionsClientInputs
no_inputs = record { cred_props = None; prf = None; prf_already_hashed = None }

-- client extension inputs (WebAuthn Level 3, section 9.3)
abbrev pub client_inputs : PlainTable AuthenticationExtensionsClientInputs
client_inputs = record {
  blank = no_inputs;
  members = optional_as 1 (codes "credProps") truth_value (λ i. i.cred_props) (λ v i. record i { cred_props = v })
      ∷ optional_as 2 (codes "prf") (nested prf_inputs) (λ i. i.prf) (λ v i. record i { prf = v })
      ∷ optional_as 3 (codes "prfAlreadyHashed") (nested prf_inputs)
      (λ i. i.prf_already_hashed) (λ v i. record i { prf_already_hashed = v })
      ∷ [];
  sound = λ i. (refl, refl);
}

-- whether any member is present
abbrev pub has_input : AuthenticationExtensionsClientInputs → Bool
has_input x = is_some x.cred_props || is_some x.prf || is_some x.prf_already_hashed

-- the inputs, if any member is present
abbrev pub where_any : AuthenticationExtensionsClientInputs → Option AuthenticationExtensionsClientInputs
where_any x = if has_input x then Some x else None

-- properties of a credential (WebAuthn Level 3, section 10.1.3)
abbrev pub credential_properties : PlainTable CredentialPropertiesOutput
credential_properties = record {
  blank = record { discoverable = None };
  members = optional_as 1 (codes "rk") truth_value (λ p. p.discoverable) (λ v p. record p { discoverable = v })
      ∷ [];
  sound = λ p. (refl, refl);
}

abbrev pub no_outputs : AuthenticationExtensionsClientOutputs
no_outputs = record { cred_props = None; prf = None }

-- client extension outputs (WebAuthn Level 3, section 9.4)
abbrev pub client_outputs : PlainTable AuthenticationExtensionsClientOutputs
client_outputs = record {
  blank = no_outputs;
  members = optional_as 1 (codes "credProps") (nested credential_properties)
      (λ o. o.cred_props) (λ v o. record o { cred_props = v })
      ∷ optional_as 2 (codes "prf") (nested prf_outputs) (λ o. o.prf) (λ v o. record o { prf = v })
      ∷ [];
  sound = λ o. (refl, refl);
}
