-- Attestation statement format identifiers (WebAuthn Level 3, sections 8.1 to 8.9).
use Rattle.std.specs.Prelude.{◌≡◌, ℕ, List, [], ◌∷◌, Option, Some, codes, refl}
use Rattle.passkey_attestation.specs.contracts.format.AttestationFormat.{the_type}
use Rattle.passkey_attestation.specs.declared.format.AttestationFormat.{AttestationFormat}
use Rattle.passkey_attestation.specs.declared.format.AttestationFormat.TheVariants as format
use Rattle.passkey_webauthn.specs.Names.{Names, own_name, value_in}

abbrev pub formats : Names AttestationFormat
formats = (codes "packed", format.Packed)
    ∷ (codes "tpm", format.Tpm)
    ∷ (codes "android-key", format.AndroidKey)
    ∷ (codes "android-safetynet", format.AndroidSafetyNet)
    ∷ (codes "fido-u2f", format.FidoU2f)
    ∷ (codes "none", format.None)
    ∷ (codes "apple", format.Apple)
    ∷ (codes "compound", format.Compound)
    ∷ []

abbrev pub format_name : AttestationFormat → List ℕ
format_name = own_name the_type formats

abbrev pub format_named : List ℕ → Option AttestationFormat
format_named = value_in formats

pub format_own : (x : AttestationFormat) → value_in formats (format_name x) ≡ Some x
format_own format.None = refl
format_own _ = refl
