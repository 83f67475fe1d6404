-- What a relying party prefers (WebAuthn Level 3), by names.
use Rattle.std.specs.Prelude.{◌≡◌, ℕ, List, [], ◌∷◌, Some, codes, refl}
use Rattle.passkey_json.specs.Coded.{Coded, named_value}
use Rattle.passkey_webauthn_json.specs.contracts.options.preferences.PublicKeyCredentialHints.{the_type as hint_type}
use Rattle.passkey_webauthn_json.specs.contracts.options.preferences.AttestationConveyancePreference.{the_type as conveyance_type}
use Rattle.passkey_webauthn_json.specs.contracts.options.preferences.AttestationStatementFormatIdentifiers.{the_type as format_type}
use Rattle.passkey_webauthn_json.specs.declared.options.preferences.PublicKeyCredentialHints.{PublicKeyCredentialHints}
use Rattle.passkey_webauthn_json.specs.declared.options.preferences.PublicKeyCredentialHints.TheVariants as hint
use Rattle.passkey_webauthn_json.specs.declared.options.preferences.AttestationConveyancePreference.{AttestationConveyancePreference}
use Rattle.passkey_webauthn_json.specs.declared.options.preferences.AttestationConveyancePreference.TheVariants as conveyance
use Rattle.passkey_webauthn_json.specs.declared.options.preferences.AttestationStatementFormatIdentifiers.{AttestationStatementFormatIdentifiers}
use Rattle.passkey_webauthn_json.specs.declared.options.preferences.AttestationStatementFormatIdentifiers.TheVariants as format
use Rattle.passkey_webauthn.specs.Names.{Names, own_name, value_in}

-- hints about the authenticator that the user will probably use (section 5.8.8)
abbrev pub hints : Names PublicKeyCredentialHints
hints = (codes "security-key", hint.SecurityKey)
    ∷ (codes "client-device", hint.ClientDevice)
    ∷ (codes "hybrid", hint.Hybrid)
    ∷ []

abbrev pub hint_name : PublicKeyCredentialHints → List ℕ
hint_name = own_name hint_type hints

abbrev pub hint_value : Coded PublicKeyCredentialHints
hint_value = named_value hint_type hints

pub hint_own : (x : PublicKeyCredentialHints) → value_in hints (hint_name x) ≡ Some x
hint_own hint.SecurityKey = refl
hint_own _ = refl

-- which attestation a relying party wants (section 5.4.7)
abbrev pub conveyances : Names AttestationConveyancePreference
conveyances = (codes "none", conveyance.None)
    ∷ (codes "indirect", conveyance.Indirect)
    ∷ (codes "direct", conveyance.Direct)
    ∷ (codes "enterprise", conveyance.Enterprise)
    ∷ []

abbrev pub conveyance_name : AttestationConveyancePreference → List ℕ
conveyance_name = own_name conveyance_type conveyances

abbrev pub conveyance_value : Coded AttestationConveyancePreference
conveyance_value = named_value conveyance_type conveyances

pub conveyance_own : (x : AttestationConveyancePreference) → value_in conveyances (conveyance_name x) ≡ Some x
conveyance_own conveyance.None = refl
conveyance_own _ = refl

-- attestation statement formats (section 8.1)
abbrev pub formats : Names AttestationStatementFormatIdentifiers
formats = (codes "packed", format.Packed)
    ∷ (codes "tpm", format.Tpm)
    ∷ (codes "android-key", format.AndroidKey)
    ∷ (codes "android-safetynet", format.AndroidSafetynet)
    ∷ (codes "fido-u2f", format.FidoU2f)
    ∷ (codes "apple", format.Apple)
    ∷ (codes "none", format.None)
    ∷ []

abbrev pub format_name : AttestationStatementFormatIdentifiers → List ℕ
format_name = own_name format_type formats

abbrev pub format_value : Coded AttestationStatementFormatIdentifiers
format_value = named_value format_type formats

pub format_own : (x : AttestationStatementFormatIdentifiers) → value_in formats (format_name x) ≡ Some x
format_own format.Packed = refl
format_own _ = refl
