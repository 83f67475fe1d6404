-- The tables of records of WebAuthn, over JSON.
use Rattle.std.specs.Prelude.{[], ◌∷◌, None, codes, refl}
use Rattle.passkey_iana.specs.declared.algorithm.Algorithm.TheVariants.{ES256}
use Rattle.passkey_json.specs.Coded.{algorithm_value, bytes_value, credential_type_value, text_value, transport_value, truth_value}
use Rattle.passkey_json.specs.Table.{PlainTable, nested, accepted_as, optional_as, required_as, required_tolerated_as}
use Rattle.passkey_webauthn.specs.declared.credential_type.PublicKeyCredentialType.TheVariants.{Unknown}
use Rattle.passkey_webauthn.specs.declared.descriptor.PublicKeyCredentialDescriptor.{PublicKeyCredentialDescriptor}
use Rattle.passkey_webauthn.specs.declared.parameters.PublicKeyCredentialParameters.{PublicKeyCredentialParameters}
use Rattle.passkey_webauthn.specs.declared.prf_outputs.AuthenticationExtensionsPrfOutputs.{AuthenticationExtensionsPrfOutputs}
use Rattle.passkey_webauthn.specs.declared.prf_values.AuthenticationExtensionsPrfValues.{AuthenticationExtensionsPrfValues}
use Rattle.passkey_webauthn.specs.declared.rp.PublicKeyCredentialRpEntity.{PublicKeyCredentialRpEntity}
use Rattle.passkey_webauthn.specs.declared.user.PublicKeyCredentialUserEntity.{PublicKeyCredentialUserEntity}

-- credential descriptors (WebAuthn Level 3, section 5.8.3)
abbrev pub descriptor : PlainTable PublicKeyCredentialDescriptor
descriptor = record {
  blank = record { ty = Unknown; id = []; transports = None };
  members = required_tolerated_as 1 (codes "type") credential_type_value Unknown
      (λ d. d.ty) (λ v d. record d { ty = v })
      ∷ required_as 2 (codes "id") bytes_value (λ d. d.id) (λ v d. record d { id = v })
      ∷ accepted_as 3 (codes "transports") transport_value (λ d. d.transports) (λ v d. record d { transports = v })
      ∷ [];
  sound = λ d. (refl, refl);
}

-- credential parameters (WebAuthn Level 3, section 5.3)
abbrev pub parameters : PlainTable PublicKeyCredentialParameters
parameters = record {
  blank = record { ty = Unknown; alg = ES256 };
  members = required_tolerated_as 1 (codes "type") credential_type_value Unknown
      (λ p. p.ty) (λ v p. record p { ty = v })
      ∷ required_as 2 (codes "alg") algorithm_value (λ p. p.alg) (λ v p. record p { alg = v })
      ∷ [];
  sound = λ p. (refl, refl);
}

-- relying parties (WebAuthn Level 3, section 5.4.2)
abbrev pub rp : PlainTable PublicKeyCredentialRpEntity
rp = record {
  blank = record { id = None; name = [] };
  members = optional_as 1 (codes "id") text_value (λ r. r.id) (λ v r. record r { id = v })
      ∷ required_as 2 (codes "name") text_value (λ r. r.name) (λ v r. record r { name = v })
      ∷ [];
  sound = λ r. (refl, refl);
}

-- users (WebAuthn Level 3, section 5.4.3)
abbrev pub user : PlainTable PublicKeyCredentialUserEntity
user = record {
  blank = record { id = []; display_name = []; name = [] };
  members = required_as 1 (codes "id") bytes_value (λ u. u.id) (λ v u. record u { id = v })
      ∷ required_as 2 (codes "displayName") text_value (λ u. u.display_name) (λ v u. record u { display_name = v })
      ∷ required_as 3 (codes "name") text_value (λ u. u.name) (λ v u. record u { name = v })
      ∷ [];
  sound = λ u. (refl, refl);
}

-- salts and outputs of the extension prf (WebAuthn Level 3, section 10.1.4)
abbrev pub prf_values : PlainTable AuthenticationExtensionsPrfValues
prf_values = record {
  blank = record { first = []; second = None };
  members = required_as 1 (codes "first") bytes_value (λ p. p.first) (λ v p. record p { first = v })
      ∷ optional_as 2 (codes "second") bytes_value (λ p. p.second) (λ v p. record p { second = v })
      ∷ [];
  sound = λ p. (refl, refl);
}

-- outputs of the extension prf (WebAuthn Level 3, section 10.1.4)
abbrev pub prf_outputs : PlainTable AuthenticationExtensionsPrfOutputs
prf_outputs = record {
  blank = record { enabled = None; results = None };
  members = optional_as 1 (codes "enabled") truth_value (λ p. p.enabled) (λ v p. record p { enabled = v })
      ∷ optional_as 2 (codes "results") (nested prf_values) (λ p. p.results) (λ v p. record p { results = v })
      ∷ [];
  sound = λ p. (refl, refl);
}
