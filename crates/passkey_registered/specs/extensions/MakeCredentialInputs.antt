-- Extension inputs of an authenticatorMakeCredential request: member 0x06 (CTAP 2.3, section 6.1).
use Rattle.std.specs.Prelude.{[], ◌∷◌, None, codes, option_map}
use Rattle.passkey_commands.specs.credential_management.CredProtect.{cred_protect_byte, cred_protect_of}
use Rattle.passkey_registered.specs.extensions.LargeBlobs.{blob_make_inputs}
use Rattle.passkey_registered.specs.extensions.Prf.{prf_inputs}
use Rattle.passkey_registered.specs.declared.extensions.make_credential.extension_inputs.ExtensionInputs.{ExtensionInputs}
use Rattle.passkey_kinds.specs.Coded.{bytes, truth}
use Rattle.passkey_kinds.specs.Numbered.{code, kept_item}
use Rattle.passkey_kinds.specs.Words.{PlainTable, optional_as, plain}

abbrev pub make_credential_inputs : PlainTable ExtensionInputs
make_credential_inputs = record {
  blank = record {
    prf = None;
    uvm = None;
    cred_blob = None;
    large_blob = None;
    cred_protect = None;
    hmac_secret = None;
    large_blob_key = None;
    min_pin_length = None;
    hmac_secret_mc = None;
    third_party_payment = None;
    pin_complexity_policy = None;
  };
  members = optional_as 1 (codes "prf") (plain prf_inputs) (λ r. r.prf) (λ x r. record r { prf = x })
      ∷ optional_as 2 (codes "uvm") truth (λ r. r.uvm) (λ x r. record r { uvm = x })
      ∷ optional_as 3 (codes "credBlob") bytes (λ r. r.cred_blob) (λ x r. record r { cred_blob = x })
      ∷ optional_as 4 (codes "largeBlob") (plain blob_make_inputs) (λ r. r.large_blob)
      (λ x r. record r { large_blob = x })
      ∷ optional_as 5 (codes "credProtect") (code cred_protect_of cred_protect_byte) (λ r. r.cred_protect)
      (λ x r. record r { cred_protect = x })
      ∷ optional_as 6 (codes "hmac-secret") truth (λ r. r.hmac_secret) (λ x r. record r { hmac_secret = x })
      ∷ optional_as 7 (codes "largeBlobKey") truth (λ r. r.large_blob_key) (λ x r. record r { large_blob_key = x })
      ∷ optional_as 8 (codes "minPinLength") truth (λ r. r.min_pin_length) (λ x r. record r { min_pin_length = x })
      ∷ optional_as 9 (codes "hmac-secret-mc") kept_item (λ r. r.hmac_secret_mc) (λ x r. record r { hmac_secret_mc = x })
      ∷ optional_as 10 (codes "thirdPartyPayment") truth (λ r. r.third_party_payment)
      (λ x r. record r { third_party_payment = x })
      ∷ optional_as 11 (codes "pinComplexityPolicy") truth (λ r. r.pin_complexity_policy)
      (λ x r. record r { pin_complexity_policy = x })
      ∷ [];
}

-- what the encoding decodes to: a policy with the number of a named one becomes the named one
abbrev pub normal_make_credential_inputs : ExtensionInputs → ExtensionInputs
normal_make_credential_inputs r =
    record r { cred_protect = option_map (λ x. cred_protect_of (cred_protect_byte x)) r.cred_protect }
