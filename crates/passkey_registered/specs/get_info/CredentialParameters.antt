-- Credential types with their algorithms (WebAuthn Level 3, section 5.3).
use Rattle.std.specs.Prelude.{[], ◌∷◌, codes, pos}
use Rattle.passkey_attestation.specs.AlgorithmIdentifier.{algorithm_identifier, identifier_of}
use Rattle.passkey_registered.specs.declared.get_info.credential_parameters.CredentialParameters.{CredentialParameters}
use Rattle.passkey_kinds.specs.Coded.{text}
use Rattle.passkey_kinds.specs.Words.{PlainTable, required_as}

abbrev pub credential_parameters : PlainTable CredentialParameters
credential_parameters = record {
  blank = record { alg = identifier_of (pos 0); ty = [] };
  members = required_as 1 (codes "alg") algorithm_identifier (λ p. p.alg) (λ x p. record p { alg = x })
      ∷ required_as 2 (codes "type") text (λ p. p.ty) (λ x p. record p { ty = x })
      ∷ [];
}
