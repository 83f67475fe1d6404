-- The credential parameters that a relying party supports (WebAuthn Level 3, section 5.3).
use Rattle.std.specs.Prelude.{List, [], ◌∷◌}
use Rattle.passkey_iana.specs.declared.algorithm.Algorithm.{Algorithm}
use Rattle.passkey_iana.specs.declared.algorithm.Algorithm.TheVariants.{ES256, RS256}
use Rattle.passkey_webauthn.specs.declared.credential_type.PublicKeyCredentialType.TheVariants.{PublicKey}
use Rattle.passkey_webauthn.specs.declared.parameters.PublicKeyCredentialParameters.{PublicKeyCredentialParameters}

-- public-key credentials with this algorithm
abbrev pub public_keys_of : Algorithm → PublicKeyCredentialParameters
public_keys_of algorithm = record { ty = PublicKey; alg = algorithm }

-- the parameters that an empty list means
abbrev pub default_parameters : List PublicKeyCredentialParameters
default_parameters = public_keys_of ES256 ∷ public_keys_of RS256 ∷ []
