-- The names of the credential types (WebAuthn Level 3, section 5.8.2).
use Rattle.std.specs.Prelude.{ℕ, List, [], ◌∷◌, Option, codes}
use Rattle.passkey_webauthn.specs.Names.{Names, own_name, value_in}
use Rattle.passkey_webauthn.specs.contracts.credential_type.PublicKeyCredentialType.{the_type}
use Rattle.passkey_webauthn.specs.declared.credential_type.PublicKeyCredentialType.{PublicKeyCredentialType}
use Rattle.passkey_webauthn.specs.declared.credential_type.PublicKeyCredentialType.TheVariants as kind

abbrev pub credential_types : Names PublicKeyCredentialType
credential_types = (codes "public-key", kind.PublicKey) ∷ (codes "unknown", kind.Unknown) ∷ []

abbrev pub credential_type_name : PublicKeyCredentialType → List ℕ
credential_type_name = own_name the_type credential_types

abbrev pub credential_type_named : List ℕ → Option PublicKeyCredentialType
credential_type_named = value_in credential_types
