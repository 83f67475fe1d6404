-- Inputs and outputs of client extensions, over JSON.
use Rattle.std.specs.Prelude.{[], ◌∷◌, None, codes, refl}
use Rattle.passkey_client.specs.declared.client_extensions.ClientExtensionInputs.{ClientExtensionInputs}
use Rattle.passkey_client.specs.declared.client_extensions.ClientExtensionOutputs.{ClientExtensionOutputs}
use Rattle.passkey_client.specs.declared.hmac_secret.HmacGetSecretInputs.{HmacGetSecretInputs}
use Rattle.passkey_client.specs.declared.hmac_secret.HmacGetSecretOutputs.{HmacGetSecretOutputs}
use Rattle.passkey_client.specs.declared.large_blob.LargeBlobInputs.{LargeBlobInputs}
use Rattle.passkey_client.specs.declared.large_blob.LargeBlobOutputs.{LargeBlobOutputs}
use Rattle.passkey_client.specs.Names.{policy_value}
use Rattle.passkey_client.specs.Payment.{payment_inputs, payment_outputs}
use Rattle.passkey_json.specs.Coded.{bytes_value, list_value, text_value, truth_value, word_value}
use Rattle.passkey_json.specs.Extensions.{credential_properties, prf_inputs}
use Rattle.passkey_json.specs.Table.{PlainTable, nested, optional_as, or_as, required_as}
use Rattle.passkey_json.specs.WebAuthn.{prf_outputs}

-- inputs of the client extension largeBlob (WebAuthn Level 3, section 10.1.5)
abbrev pub large_blob_inputs : PlainTable LargeBlobInputs
large_blob_inputs = record {
  blank = record { support = None; read = None; write = None };
  members = optional_as 1 (codes "support") text_value (λ r. r.support) (λ v r. record r { support = v })
      ∷ optional_as 2 (codes "read") truth_value (λ r. r.read) (λ v r. record r { read = v })
      ∷ optional_as 3 (codes "write") bytes_value (λ r. r.write) (λ v r. record r { write = v })
      ∷ [];
  sound = λ r. (refl, refl);
}

-- its outputs
abbrev pub large_blob_outputs : PlainTable LargeBlobOutputs
large_blob_outputs = record {
  blank = record { supported = None; blob = None; written = None };
  members = optional_as 1 (codes "supported") truth_value (λ r. r.supported) (λ v r. record r { supported = v })
      ∷ optional_as 2 (codes "blob") bytes_value (λ r. r.blob) (λ v r. record r { blob = v })
      ∷ optional_as 3 (codes "written") truth_value (λ r. r.written) (λ v r. record r { written = v })
      ∷ [];
  sound = λ r. (refl, refl);
}

-- inputs of the client extension hmacGetSecret (CTAP 2.1, section 12.5), also by webauthn-rs's names
abbrev pub hmac_get_secret_inputs : PlainTable HmacGetSecretInputs
hmac_get_secret_inputs = record {
  blank = record { salt1 = []; salt2 = None };
  members = or_as (codes "output1")
      (required_as 1 (codes "salt1") bytes_value (λ r. r.salt1) (λ v r. record r { salt1 = v }))
      ∷ or_as (codes "output2")
      (optional_as 2 (codes "salt2") bytes_value (λ r. r.salt2) (λ v r. record r { salt2 = v }))
      ∷ [];
  sound = λ r. (refl, refl);
}

-- its outputs
abbrev pub hmac_get_secret_outputs : PlainTable HmacGetSecretOutputs
hmac_get_secret_outputs = record {
  blank = record { output1 = []; output2 = None };
  members = required_as 1 (codes "output1") bytes_value (λ r. r.output1) (λ v r. record r { output1 = v })
      ∷ optional_as 2 (codes "output2") bytes_value (λ r. r.output2) (λ v r. record r { output2 = v })
      ∷ [];
  sound = λ r. (refl, refl);
}

-- inputs of client extensions (WebAuthn Level 3, section 9.3)
abbrev pub client_extension_inputs : PlainTable ClientExtensionInputs
client_extension_inputs = record {
  blank = record {
    appid = None;
    appid_exclude = None;
    cred_props = None;
    prf = None;
    large_blob = None;
    cred_blob = None;
    get_cred_blob = None;
    credential_protection_policy = None;
    enforce_credential_protection_policy = None;
    min_pin_length = None;
    pin_complexity_policy = None;
    hmac_create_secret = None;
    hmac_get_secret = None;
    uvm = None;
    payment = None;
  };
  members = optional_as 1 (codes "appid") text_value (λ r. r.appid) (λ v r. record r { appid = v })
      ∷ optional_as 2 (codes "appidExclude") text_value
      (λ r. r.appid_exclude) (λ v r. record r { appid_exclude = v })
      ∷ optional_as 3 (codes "credProps") truth_value (λ r. r.cred_props) (λ v r. record r { cred_props = v })
      ∷ optional_as 4 (codes "prf") (nested prf_inputs) (λ r. r.prf) (λ v r. record r { prf = v })
      ∷ optional_as 5 (codes "largeBlob") (nested large_blob_inputs)
      (λ r. r.large_blob) (λ v r. record r { large_blob = v })
      ∷ optional_as 6 (codes "credBlob") bytes_value (λ r. r.cred_blob) (λ v r. record r { cred_blob = v })
      ∷ optional_as 7 (codes "getCredBlob") truth_value
      (λ r. r.get_cred_blob) (λ v r. record r { get_cred_blob = v })
      ∷ optional_as 8 (codes "credentialProtectionPolicy") policy_value
      (λ r. r.credential_protection_policy) (λ v r. record r { credential_protection_policy = v })
      ∷ optional_as 9 (codes "enforceCredentialProtectionPolicy") truth_value
      (λ r. r.enforce_credential_protection_policy) (λ v r. record r { enforce_credential_protection_policy = v })
      ∷ optional_as 10 (codes "minPinLength") truth_value
      (λ r. r.min_pin_length) (λ v r. record r { min_pin_length = v })
      ∷ optional_as 11 (codes "pinComplexityPolicy") truth_value
      (λ r. r.pin_complexity_policy) (λ v r. record r { pin_complexity_policy = v })
      ∷ optional_as 12 (codes "hmacCreateSecret") truth_value
      (λ r. r.hmac_create_secret) (λ v r. record r { hmac_create_secret = v })
      ∷ optional_as 13 (codes "hmacGetSecret") (nested hmac_get_secret_inputs)
      (λ r. r.hmac_get_secret) (λ v r. record r { hmac_get_secret = v })
      ∷ optional_as 14 (codes "uvm") truth_value (λ r. r.uvm) (λ v r. record r { uvm = v })
      ∷ optional_as 15 (codes "payment") (nested payment_inputs) (λ r. r.payment) (λ v r. record r { payment = v })
      ∷ [];
  sound = λ r. (refl, refl);
}

-- outputs of client extensions (WebAuthn Level 3, section 9.4)
abbrev pub client_extension_outputs : PlainTable ClientExtensionOutputs
client_extension_outputs = record {
  blank = record {
    appid = None;
    appid_exclude = None;
    cred_props = None;
    prf = None;
    large_blob = None;
    cred_blob = None;
    get_cred_blob = None;
    hmac_create_secret = None;
    hmac_get_secret = None;
    uvm = None;
    payment = None;
    cred_protect = None;
    hmac_secret = None;
    min_pin_length = None;
  };
  members = optional_as 1 (codes "appid") truth_value (λ r. r.appid) (λ v r. record r { appid = v })
      ∷ optional_as 2 (codes "appidExclude") truth_value
      (λ r. r.appid_exclude) (λ v r. record r { appid_exclude = v })
      ∷ optional_as 3 (codes "credProps") (nested credential_properties)
      (λ r. r.cred_props) (λ v r. record r { cred_props = v })
      ∷ optional_as 4 (codes "prf") (nested prf_outputs) (λ r. r.prf) (λ v r. record r { prf = v })
      ∷ optional_as 5 (codes "largeBlob") (nested large_blob_outputs)
      (λ r. r.large_blob) (λ v r. record r { large_blob = v })
      ∷ optional_as 6 (codes "credBlob") truth_value (λ r. r.cred_blob) (λ v r. record r { cred_blob = v })
      ∷ optional_as 7 (codes "getCredBlob") bytes_value
      (λ r. r.get_cred_blob) (λ v r. record r { get_cred_blob = v })
      ∷ optional_as 8 (codes "hmacCreateSecret") truth_value
      (λ r. r.hmac_create_secret) (λ v r. record r { hmac_create_secret = v })
      ∷ optional_as 9 (codes "hmacGetSecret") (nested hmac_get_secret_outputs)
      (λ r. r.hmac_get_secret) (λ v r. record r { hmac_get_secret = v })
      ∷ optional_as 10 (codes "uvm") (list_value (list_value word_value))
      (λ r. r.uvm) (λ v r. record r { uvm = v })
      ∷ optional_as 11 (codes "payment") (nested payment_outputs) (λ r. r.payment) (λ v r. record r { payment = v })
      ∷ optional_as 12 (codes "credProtect") text_value
      (λ r. r.cred_protect) (λ v r. record r { cred_protect = v })
      ∷ optional_as 13 (codes "hmacSecret") truth_value
      (λ r. r.hmac_secret) (λ v r. record r { hmac_secret = v })
      ∷ optional_as 14 (codes "minPinLength") word_value
      (λ r. r.min_pin_length) (λ v r. record r { min_pin_length = v })
      ∷ [];
  sound = λ r. (refl, refl);
}
