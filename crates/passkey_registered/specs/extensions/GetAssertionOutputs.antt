-- Extension outputs in the authenticator data of an assertion (WebAuthn Level 3, section 6.1).
use Rattle.std.specs.Prelude.{[], ◌∷◌, None, codes}
use Rattle.passkey_registered.specs.declared.extensions.get_assertion.signed_outputs.SignedExtensionOutputs.{SignedExtensionOutputs}
use Rattle.passkey_kinds.specs.Coded.{bytes, list_of, truth}
use Rattle.passkey_kinds.specs.Words.{PlainTable, optional_as, word}

abbrev pub get_assertion_outputs : PlainTable SignedExtensionOutputs
get_assertion_outputs = record {
  blank = record { uvm = None; cred_blob = None; hmac_secret = None; third_party_payment = None };
  members = optional_as 1 (codes "uvm") (list_of (list_of word)) (λ r. r.uvm) (λ x r. record r { uvm = x })
      ∷ optional_as 2 (codes "credBlob") bytes (λ r. r.cred_blob) (λ x r. record r { cred_blob = x })
      ∷ optional_as 3 (codes "hmac-secret") bytes (λ r. r.hmac_secret) (λ x r. record r { hmac_secret = x })
      ∷ optional_as 4 (codes "thirdPartyPayment") truth (λ r. r.third_party_payment)
      (λ x r. record r { third_party_payment = x })
      ∷ [];
}
