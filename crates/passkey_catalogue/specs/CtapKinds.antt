-- The kinds of CTAP2's bytes, by their names, and where they are defined.
use Rattle.std.specs.Prelude.{◌≡◌, ℕ, List, [], ◌∷◌, Some, codes, refl}
use Rattle.passkey_catalogue.specs.Rows.{Rows, names_of, own_source}
use Rattle.passkey_catalogue.specs.contracts.ctap_kind.CtapKind.{the_type}
use Rattle.passkey_catalogue.specs.declared.ctap_kind.CtapKind.{CtapKind}
use Rattle.passkey_catalogue.specs.declared.ctap_kind.CtapKind.TheVariants as kind
use Rattle.passkey_webauthn.specs.Names.{Names, own_name, value_in}

abbrev pub ctap_rows : Rows CtapKind
ctap_rows = (codes "pin-request", kind.PinRequest, codes "CTAP 2.1, section 6.5")
    ∷ (codes "pin-response", kind.PinResponse, codes "CTAP 2.1, section 6.5")
    ∷ (codes "bio-request", kind.BioRequest, codes "CTAP 2.1, section 6.7")
    ∷ (codes "bio-response", kind.BioResponse, codes "CTAP 2.1, section 6.7")
    ∷ (codes "cm-request", kind.CredentialRequest, codes "CTAP 2.1, section 6.8")
    ∷ (codes "cm-response", kind.CredentialResponse, codes "CTAP 2.1, section 6.8")
    ∷ (codes "lb-request", kind.BlobsRequest, codes "CTAP 2.1, section 6.10")
    ∷ (codes "lb-response", kind.BlobsResponse, codes "CTAP 2.1, section 6.10")
    ∷ (codes "lb-entry", kind.BlobsEntry, codes "CTAP 2.1, section 6.10.3")
    ∷ (codes "cfg-request", kind.ConfigRequest, codes "CTAP 2.1, section 6.11")
    ∷ (codes "cfg-min-pin-length", kind.ConfigMinPinLength, codes "CTAP 2.1, section 6.11.4")
    ∷ (codes "cfg-vendor", kind.ConfigVendor, codes "CTAP 2.1, section 6.11.3")
    ∷ (codes "cose-key", kind.Key, codes "RFC 9052, section 7")
    ∷ (codes "info-23", kind.Info23, codes "CTAP 2.3, section 6.4")
    ∷ (codes "mc-inputs", kind.MakeInputs, codes "CTAP 2.3, section 6.1")
    ∷ (codes "mc-outputs", kind.MakeOutputs, codes "WebAuthn Level 3, section 6.1")
    ∷ (codes "mc-unsigned", kind.MakeUnsigned, codes "CTAP 2.3, section 6.1")
    ∷ (codes "ga-inputs", kind.GetInputs, codes "CTAP 2.3, section 6.2")
    ∷ (codes "ga-outputs", kind.GetOutputs, codes "WebAuthn Level 3, section 6.1")
    ∷ (codes "ga-unsigned", kind.GetUnsigned, codes "CTAP 2.3, section 6.2")
    ∷ (codes "att-packed", kind.PackedStatement, codes "WebAuthn Level 3, section 8.2")
    ∷ (codes "att-tpm", kind.TpmStatement, codes "WebAuthn Level 3, section 8.3")
    ∷ (codes "att-android-key", kind.AndroidKeyStatement, codes "WebAuthn Level 3, section 8.4")
    ∷ (codes "att-android-safetynet", kind.SafetyNetStatement, codes "WebAuthn Level 3, section 8.5")
    ∷ (codes "att-fido-u2f", kind.FidoU2fStatement, codes "WebAuthn Level 3, section 8.6")
    ∷ (codes "att-none", kind.NoneStatement, codes "WebAuthn Level 3, section 8.7")
    ∷ (codes "att-apple", kind.AppleStatement, codes "WebAuthn Level 3, section 8.8")
    ∷ (codes "att-compound", kind.CompoundStatement, codes "WebAuthn Level 3, section 8.9")
    ∷ (codes "tpm-cert-info", kind.CertInfo, codes "TPM 2.0 Library, Part 2")
    ∷ (codes "tpm-pub-area", kind.PubArea, codes "TPM 2.0 Library, Part 2")
    ∷ (codes "ctap-mc-request", kind.CtapMakeRequest, codes "CTAP 2.2, section 6.1")
    ∷ (codes "ctap-ga-request", kind.CtapGetRequest, codes "CTAP 2.2, section 6.2")
    ∷ (codes "ctap-mc-response", kind.CtapMakeResponse, codes "CTAP 2.2, section 6.1")
    ∷ (codes "ctap-ga-response", kind.CtapGetResponse, codes "CTAP 2.2, section 6.2")
    ∷ (codes "attestation-object", kind.AttestationObject, codes "WebAuthn Level 3, section 6.5.4")
    ∷ []

abbrev pub ctap_kinds : Names CtapKind
ctap_kinds = names_of ctap_rows

pub ctap_own : (x : CtapKind) → value_in ctap_kinds (own_name the_type ctap_kinds x) ≡ Some x
ctap_own kind.PinRequest = refl
ctap_own _ = refl

abbrev pub ctap_source : CtapKind → List ℕ
ctap_source = own_source the_type ctap_rows
