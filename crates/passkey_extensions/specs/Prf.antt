-- Inputs and outputs of the extension prf (WebAuthn Level 3, sections 9 and 10.1.4).
use Rattle.std.specs.Prelude.{[], ◌∷◌, None, codes, false, replicate, option_map, Some}
use Rattle.passkey_extensions.specs.declared.prf.AuthenticatorPrfGetOutputs.{AuthenticatorPrfGetOutputs}
use Rattle.passkey_extensions.specs.declared.prf.AuthenticatorPrfInputs.{AuthenticatorPrfInputs}
use Rattle.passkey_extensions.specs.declared.prf.AuthenticatorPrfMakeOutputs.{AuthenticatorPrfMakeOutputs}
use Rattle.passkey_extensions.specs.declared.prf.AuthenticatorPrfValues.{AuthenticatorPrfValues}
use Rattle.passkey_extensions.specs.declared.unsigned.UnsignedExtensionOutputs.{UnsignedExtensionOutputs}
use Rattle.passkey_kinds.specs.Coded.{truth, sized_bytes, or_null, byte_map, plain}
use Rattle.passkey_kinds.specs.Words.{PlainTable, required_as, default_as, optional_as}
use Rattle.passkey_webauthn.specs.declared.prf_outputs.AuthenticationExtensionsPrfOutputs.{AuthenticationExtensionsPrfOutputs}
use Rattle.passkey_webauthn.specs.declared.prf_values.AuthenticationExtensionsPrfValues.{AuthenticationExtensionsPrfValues}

-- ---- inputs and outputs of the extension prf (WebAuthn Level 3, sections 9 and 10.1.4)

abbrev pub prf_values : PlainTable AuthenticatorPrfValues
prf_values = record {
  blank = record { first = replicate 32 0; second = None };
  members = required_as 1 (codes "first") (sized_bytes 32) (λ v. v.first) (λ x v. record v { first = x })
      ∷ optional_as 2 (codes "second") (sized_bytes 32) (λ v. v.second) (λ x v. record v { second = x })
      ∷ [];
}

abbrev pub prf_inputs : PlainTable AuthenticatorPrfInputs
prf_inputs = record {
  blank = record { eval = None; eval_by_credential = None };
  members = optional_as 1 (codes "eval") (plain prf_values) (λ i. i.eval) (λ x i. record i { eval = x })
      ∷ optional_as 2 (codes "eval_by_credential") (byte_map (plain prf_values)) (λ i. i.eval_by_credential)
      (λ x i. record i { eval_by_credential = x })
      ∷ [];
}

-- ---- outputs

abbrev pub make_credential_prf : PlainTable AuthenticatorPrfMakeOutputs
make_credential_prf = record {
  blank = record { enabled = false; results = None };
  members = required_as 1 (codes "enabled") truth (λ o. o.enabled) (λ x o. record o { enabled = x })
      ∷ optional_as 2 (codes "results") (plain prf_values) (λ o. o.results) (λ x o. record o { results = x })
      ∷ [];
}

abbrev pub get_assertion_prf : PlainTable AuthenticatorPrfGetOutputs
get_assertion_prf = record {
  blank = record { results = record { first = replicate 32 0; second = None } };
  members = required_as 1 (codes "results") (plain prf_values) (λ o. o.results) (λ x o. record o { results = x }) ∷ [];
}

-- the unsigned outputs of a command with these outputs, whose member is null if there are none
abbrev pub unsigned : {P : Type 0} → PlainTable P → PlainTable (UnsignedExtensionOutputs P)
unsigned t = record {
  blank = record { prf = None };
  members = default_as 1 (codes "prf") (or_null (plain t)) (λ o. o.prf) (λ x o. record o { prf = x }) ∷ [];
}

abbrev pub normal_unsigned : {P : Type 0} → (P → P) → UnsignedExtensionOutputs P → UnsignedExtensionOutputs P
normal_unsigned normal o = record { prf = option_map normal o.prf }

-- ---- values and outputs of the extension prf in WebAuthn's types (WebAuthn Level 3, section 10.1.4)

abbrev pub webauthn_values : AuthenticatorPrfValues → AuthenticationExtensionsPrfValues
webauthn_values v = record { first = v.first; second = v.second }

-- at a registration, where `enabled` is present
abbrev pub registration_prf : AuthenticatorPrfMakeOutputs → AuthenticationExtensionsPrfOutputs
registration_prf o = record { enabled = Some o.enabled; results = option_map webauthn_values o.results }

abbrev pub authentication_prf : AuthenticatorPrfGetOutputs → AuthenticationExtensionsPrfOutputs
authentication_prf o = record { enabled = None; results = Some (webauthn_values o.results) }
