-- Extension outputs in the authenticator data of a registration (WebAuthn Level 3, section 6.1).
use Rattle.std.specs.Prelude.{[], ◌∷◌, None, codes, option_map}
use Rattle.passkey_commands.specs.credential_management.CredProtect.{cred_protect_byte, cred_protect_of}
use Rattle.passkey_registered.specs.declared.extensions.make_credential.signed_outputs.SignedExtensionOutputs.{SignedExtensionOutputs}
use Rattle.passkey_kinds.specs.Coded.{bytes, list_of, truth}
use Rattle.passkey_kinds.specs.Numbered.{code}
use Rattle.passkey_kinds.specs.Words.{PlainTable, optional_as, word}

abbrev pub make_credential_outputs : PlainTable SignedExtensionOutputs
make_credential_outputs = record {
  blank = record {
    uvm = None;
    cred_blob = None;
    cred_protect = None;
    hmac_secret = None;
    min_pin_length = None;
    hmac_secret_mc = None;
    pin_complexity_policy = None;
  };
  members = optional_as 1 (codes "uvm") (list_of (list_of word)) (λ r. r.uvm) (λ x r. record r { uvm = x })
      ∷ optional_as 2 (codes "credBlob") truth (λ r. r.cred_blob) (λ x r. record r { cred_blob = x })
      ∷ optional_as 3 (codes "credProtect") (code cred_protect_of cred_protect_byte) (λ r. r.cred_protect)
      (λ x r. record r { cred_protect = x })
      ∷ optional_as 4 (codes "hmac-secret") truth (λ r. r.hmac_secret) (λ x r. record r { hmac_secret = x })
      ∷ optional_as 5 (codes "minPinLength") word (λ r. r.min_pin_length) (λ x r. record r { min_pin_length = x })
      ∷ optional_as 6 (codes "hmac-secret-mc") bytes (λ r. r.hmac_secret_mc) (λ x r. record r { hmac_secret_mc = x })
      ∷ optional_as 7 (codes "pinComplexityPolicy") truth (λ r. r.pin_complexity_policy)
      (λ x r. record r { pin_complexity_policy = x })
      ∷ [];
}

-- what the encoding decodes to: a policy with the number of a named one becomes the named one
abbrev pub normal_make_credential_outputs : SignedExtensionOutputs → SignedExtensionOutputs
normal_make_credential_outputs r =
    record r { cred_protect = option_map (λ x. cred_protect_of (cred_protect_byte x)) r.cred_protect }
