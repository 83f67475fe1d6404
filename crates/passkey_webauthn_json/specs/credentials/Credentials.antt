-- What a browser returns, over JSON: credentials and their responses.
use Rattle.std.specs.Prelude.{[], ◌∷◌, None, codes, pos, refl}
use Rattle.passkey_webauthn_json.specs.declared.credentials.assertion_response.AuthenticatorAssertionResponse.{AuthenticatorAssertionResponse}
use Rattle.passkey_webauthn_json.specs.declared.credentials.attestation_response.AuthenticatorAttestationResponse.{AuthenticatorAttestationResponse}
use Rattle.passkey_webauthn_json.specs.declared.credentials.credential.PublicKeyCredential.{PublicKeyCredential}
use Rattle.passkey_json.specs.Requirements.{attachment_value}
use Rattle.passkey_json.specs.Coded.{bytes_value, credential_type_value, list_value, text_value, transport_value, whole_value}
use Rattle.passkey_json.specs.Extensions.{client_outputs, no_outputs}
use Rattle.passkey_json.specs.Table.{PlainTable, nested, default_as, optional_as, required_as, tolerated_optional_as}
use Rattle.passkey_webauthn.specs.declared.credential_type.PublicKeyCredentialType.TheVariants.{Unknown}

-- the response to a registration (WebAuthn Level 3, section 5.2.1)
abbrev pub attestation_response : PlainTable AuthenticatorAttestationResponse
attestation_response = record {
  blank = record {
    client_data_json = [];
    authenticator_data = [];
    public_key = None;
    public_key_algorithm = pos 0;
    attestation_object = [];
    transports = None;
  };
  members = required_as 1 (codes "clientDataJSON") bytes_value
      (λ r. r.client_data_json) (λ v r. record r { client_data_json = v })
      ∷ required_as 2 (codes "authenticatorData") bytes_value
      (λ r. r.authenticator_data) (λ v r. record r { authenticator_data = v })
      ∷ optional_as 3 (codes "publicKey") bytes_value (λ r. r.public_key) (λ v r. record r { public_key = v })
      ∷ required_as 4 (codes "publicKeyAlgorithm") whole_value
      (λ r. r.public_key_algorithm) (λ v r. record r { public_key_algorithm = v })
      ∷ required_as 5 (codes "attestationObject") bytes_value
      (λ r. r.attestation_object) (λ v r. record r { attestation_object = v })
      ∷ optional_as 6 (codes "transports") (list_value transport_value)
      (λ r. r.transports) (λ v r. record r { transports = v })
      ∷ [];
  sound = λ r. (refl, refl);
}

-- the response to a sign-in (WebAuthn Level 3, section 5.2.2)
abbrev pub assertion_response : PlainTable AuthenticatorAssertionResponse
assertion_response = record {
  blank = record {
    client_data_json = [];
    authenticator_data = [];
    signature = [];
    user_handle = None;
    attestation_object = None;
  };
  members = required_as 1 (codes "clientDataJSON") bytes_value
      (λ r. r.client_data_json) (λ v r. record r { client_data_json = v })
      ∷ required_as 2 (codes "authenticatorData") bytes_value
      (λ r. r.authenticator_data) (λ v r. record r { authenticator_data = v })
      ∷ required_as 3 (codes "signature") bytes_value (λ r. r.signature) (λ v r. record r { signature = v })
      ∷ optional_as 4 (codes "userHandle") bytes_value (λ r. r.user_handle) (λ v r. record r { user_handle = v })
      ∷ optional_as 5 (codes "attestationObject") bytes_value
      (λ r. r.attestation_object) (λ v r. record r { attestation_object = v })
      ∷ [];
  sound = λ r. (refl, refl);
}

-- a credential with a response of this table (WebAuthn Level 3, section 5.1)
abbrev pub credential : {R : Type 0} → PlainTable R → PlainTable (PublicKeyCredential R)
credential response = record {
  blank = record {
    id = [];
    raw_id = [];
    ty = Unknown;
    response = response.blank;
    authenticator_attachment = None;
    client_extension_results = no_outputs;
  };
  members = required_as 1 (codes "id") text_value (λ c. c.id) (λ v c. record c { id = v })
      ∷ required_as 2 (codes "rawId") bytes_value (λ c. c.raw_id) (λ v c. record c { raw_id = v })
      ∷ required_as 3 (codes "type") credential_type_value (λ c. c.ty) (λ v c. record c { ty = v })
      ∷ required_as 4 (codes "response") (nested response) (λ c. c.response) (λ v c. record c { response = v })
      ∷ tolerated_optional_as 5 (codes "authenticatorAttachment") attachment_value
      (λ c. c.authenticator_attachment) (λ v c. record c { authenticator_attachment = v })
      ∷ default_as 6 (codes "clientExtensionResults") (nested client_outputs) no_outputs
      (λ c. c.client_extension_results) (λ v c. record c { client_extension_results = v })
      ∷ [];
  sound = λ c. (refl, refl);
}
