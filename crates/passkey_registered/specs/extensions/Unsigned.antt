-- Extension outputs of a response that are outside its authenticator data: member 0x06 of an authenticatorMakeCredential response
-- (CTAP 2.3, section 6.1), and 0x08 of an authenticatorGetAssertion response (section 6.2).
use Rattle.std.specs.Prelude.{[], ◌∷◌, None, codes}
use Rattle.passkey_registered.specs.extensions.LargeBlobs.{blob_get_outputs, blob_make_outputs}
use Rattle.passkey_registered.specs.extensions.Prf.{prf_outputs}
use Rattle.passkey_registered.specs.declared.extensions.large_blob.LargeBlobGetOutputs.{LargeBlobGetOutputs}
use Rattle.passkey_registered.specs.declared.extensions.large_blob.LargeBlobMakeOutputs.{LargeBlobMakeOutputs}
use Rattle.passkey_registered.specs.declared.extensions.unsigned_outputs.UnsignedExtensionOutputs.{UnsignedExtensionOutputs}
use Rattle.passkey_kinds.specs.Words.{PlainTable, optional_as, plain}

-- with the command's outputs of largeBlob
abbrev pub unsigned_outputs : {L : Type 0} → PlainTable L → PlainTable (UnsignedExtensionOutputs L)
unsigned_outputs t = record {
  blank = record { prf = None; large_blob = None };
  members = optional_as 1 (codes "prf") (plain prf_outputs) (λ r. r.prf) (λ x r. record r { prf = x })
      ∷ optional_as 2 (codes "largeBlob") (plain t) (λ r. r.large_blob) (λ x r. record r { large_blob = x })
      ∷ [];
}

abbrev pub make_credential_unsigned : PlainTable (UnsignedExtensionOutputs LargeBlobMakeOutputs)
make_credential_unsigned = unsigned_outputs blob_make_outputs

abbrev pub get_assertion_unsigned : PlainTable (UnsignedExtensionOutputs LargeBlobGetOutputs)
get_assertion_unsigned = unsigned_outputs blob_get_outputs
