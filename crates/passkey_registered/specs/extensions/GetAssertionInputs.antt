-- Extension inputs of an authenticatorGetAssertion request: member 0x04 (CTAP 2.3, section 6.2).
use Rattle.std.specs.Prelude.{[], ◌∷◌, None, codes}
use Rattle.passkey_registered.specs.extensions.LargeBlobs.{blob_get_inputs}
use Rattle.passkey_registered.specs.extensions.Prf.{prf_inputs}
use Rattle.passkey_registered.specs.declared.extensions.get_assertion.extension_inputs.ExtensionInputs.{ExtensionInputs}
use Rattle.passkey_kinds.specs.Coded.{truth}
use Rattle.passkey_kinds.specs.Numbered.{kept_item}
use Rattle.passkey_kinds.specs.Words.{PlainTable, optional_as, plain}

abbrev pub get_assertion_inputs : PlainTable ExtensionInputs
get_assertion_inputs = record {
  blank = record {
    prf = None;
    uvm = None;
    cred_blob = None;
    large_blob = None;
    hmac_secret = None;
    large_blob_key = None;
    third_party_payment = None;
  };
  members = optional_as 1 (codes "prf") (plain prf_inputs) (λ r. r.prf) (λ x r. record r { prf = x })
      ∷ optional_as 2 (codes "uvm") truth (λ r. r.uvm) (λ x r. record r { uvm = x })
      ∷ optional_as 3 (codes "credBlob") truth (λ r. r.cred_blob) (λ x r. record r { cred_blob = x })
      ∷ optional_as 4 (codes "largeBlob") (plain blob_get_inputs) (λ r. r.large_blob) (λ x r. record r { large_blob = x })
      ∷ optional_as 5 (codes "hmac-secret") kept_item (λ r. r.hmac_secret) (λ x r. record r { hmac_secret = x })
      ∷ optional_as 6 (codes "largeBlobKey") truth (λ r. r.large_blob_key) (λ x r. record r { large_blob_key = x })
      ∷ optional_as 7 (codes "thirdPartyPayment") truth (λ r. r.third_party_payment)
      (λ x r. record r { third_party_payment = x })
      ∷ [];
}
