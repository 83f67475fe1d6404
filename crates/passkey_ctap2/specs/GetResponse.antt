-- authenticatorGetAssertion responses (CTAP 2.1, section 6.2).
use Rattle.std.specs.Prelude.{ℕ, Bool, ◌&&◌, List, [], ◌∷◌, Option, None, codes, replicate}
use Rattle.passkey_kinds.specs.Numbered.{is_shallow, numbered_fields}
use Rattle.passkey_kinds.specs.Words.{Item, is_coherent, normal_data, DataParts, bare_data, PlainTable, plain_tree, required_at, optional_at, descriptor, Fields, PublicKeyCredentialDescriptor, data_parts}
use Rattle.passkey_kinds.specs.Coded.{truth, byte, bytes, authenticator_data, plain}
use Rattle.passkey_extensions.specs.Entities.{user}
use Rattle.passkey_extensions.specs.declared.user.PublicKeyCredentialUserEntity.{PublicKeyCredentialUserEntity}
use Rattle.passkey_extensions.specs.Prf.{get_assertion_prf, unsigned}
use Rattle.passkey_extensions.specs.declared.prf.AuthenticatorPrfGetOutputs.{AuthenticatorPrfGetOutputs}
use Rattle.passkey_extensions.specs.declared.unsigned.UnsignedExtensionOutputs.{UnsignedExtensionOutputs}
use Rattle.passkey_ctap2.specs.declared.get_assertion.response.Response.{Response}

-- what contracts see of a response
pub record GetResponseParts : Type 0 where
  pub credential : Option PublicKeyCredentialDescriptor
  pub auth_data : DataParts
  pub signature : List ℕ
  pub user : Option PublicKeyCredentialUserEntity
  pub number_of_credentials : Option ℕ
  pub user_selected : Option Bool
  pub large_blob_key : Option (List ℕ)
  pub unsigned_extension_outputs : Option (UnsignedExtensionOutputs AuthenticatorPrfGetOutputs)

abbrev pub get_response_parts : Response → GetResponseParts
get_response_parts r = record {
  credential = r.credential;
  auth_data = data_parts r.auth_data;
  signature = r.signature;
  user = r.user;
  number_of_credentials = r.number_of_credentials;
  user_selected = r.user_selected;
  large_blob_key = r.large_blob_key;
  unsigned_extension_outputs = r.unsigned_extension_outputs;
}

abbrev pub get_response : PlainTable GetResponseParts
get_response = record {
  blank = record {
    credential = None;
    auth_data = bare_data (replicate 32 0) 24 None;
    signature = [];
    user = None;
    number_of_credentials = None;
    user_selected = None;
    large_blob_key = None;
    unsigned_extension_outputs = None;
  };
  members = optional_at 1 (codes "credential") (plain descriptor) (λ r. r.credential) (λ x r. record r { credential = x })
      ∷ required_at 2 (codes "authData") authenticator_data (λ r. r.auth_data) (λ x r. record r { auth_data = x })
      ∷ required_at 3 (codes "signature") bytes (λ r. r.signature) (λ x r. record r { signature = x })
      ∷ optional_at 4 (codes "user") (plain user) (λ r. r.user) (λ x r. record r { user = x })
      ∷ optional_at 5 (codes "numberOfCredentials") byte (λ r. r.number_of_credentials)
      (λ x r. record r { number_of_credentials = x })
      ∷ optional_at 6 (codes "userSelected") truth (λ r. r.user_selected) (λ x r. record r { user_selected = x })
      ∷ optional_at 7 (codes "largeBlobKey") bytes (λ r. r.large_blob_key) (λ x r. record r { large_blob_key = x })
      ∷ optional_at 8 (codes "unsignedExtensionOutputs") (plain (unsigned get_assertion_prf))
      (λ r. r.unsigned_extension_outputs) (λ x r. record r { unsigned_extension_outputs = x })
      ∷ [];
}

-- how a response is decoded
abbrev pub get_response_fields : Fields GetResponseParts
get_response_fields = numbered_fields get_response

-- the data item that a response is encoded as
abbrev pub get_response_tree : GetResponseParts → Item
get_response_tree = plain_tree get_response

-- the authenticator data is coherent, and the encoding has at most `max_depth` nesting levels
abbrev pub is_get_response_coherent : GetResponseParts → Bool
is_get_response_coherent r = is_coherent r.auth_data && is_shallow get_response r

-- the response that the encoding decodes to
abbrev pub normal_get_response : GetResponseParts → GetResponseParts
normal_get_response r = record r { auth_data = normal_data r.auth_data }
