-- authenticatorMakeCredential responses (CTAP 2.1, section 6.1).
use Rattle.std.specs.Prelude.{ℕ, Bool, ◌&&◌, List, [], ◌∷◌, Option, None, codes, replicate}
use Rattle.passkey_kinds.specs.Numbered.{is_shallow, numbered_fields}
use Rattle.passkey_kinds.specs.Words.{Item, text_string, null, is_coherent, normal_data, DataParts, bare_data, auth_data_tree, PlainTable, plain_tree, required_at, optional_at, Fields, Place, always, record_tree, item_of, data_parts}
use Rattle.passkey_kinds.specs.Coded.{truth, text, bytes, authenticator_data, item, plain}
use Rattle.passkey_cbor.specs.Item.{map, no_pairs}
use Rattle.passkey_extensions.specs.Prf.{make_credential_prf, unsigned}
use Rattle.passkey_extensions.specs.declared.prf.AuthenticatorPrfMakeOutputs.{AuthenticatorPrfMakeOutputs}
use Rattle.passkey_extensions.specs.declared.unsigned.UnsignedExtensionOutputs.{UnsignedExtensionOutputs}
use Rattle.passkey_ctap2.specs.declared.make_credential.response.Response.{Response}

-- what contracts see of a response
pub record MakeResponseParts : Type 0 where
  pub fmt : List ℕ
  pub auth_data : DataParts
  pub att_stmt : Item
  pub ep_att : Option Bool
  pub large_blob_key : Option (List ℕ)
  pub unsigned_extension_outputs : Option (UnsignedExtensionOutputs AuthenticatorPrfMakeOutputs)

abbrev pub make_response_parts : Response → MakeResponseParts
make_response_parts r = record {
  fmt = r.fmt;
  auth_data = data_parts r.auth_data;
  att_stmt = item_of r.att_stmt;
  ep_att = r.ep_att;
  large_blob_key = r.large_blob_key;
  unsigned_extension_outputs = r.unsigned_extension_outputs;
}

abbrev pub make_response : PlainTable MakeResponseParts
make_response = record {
  blank = record {
    fmt = [];
    auth_data = bare_data (replicate 32 0) 24 None;
    att_stmt = null;
    ep_att = None;
    large_blob_key = None;
    unsigned_extension_outputs = None;
  };
  members = required_at 1 (codes "fmt") text (λ r. r.fmt) (λ x r. record r { fmt = x })
      ∷ required_at 2 (codes "authData") authenticator_data (λ r. r.auth_data) (λ x r. record r { auth_data = x })
      ∷ required_at 3 (codes "attStmt") item (λ r. r.att_stmt) (λ x r. record r { att_stmt = x })
      ∷ optional_at 4 (codes "epAtt") truth (λ r. r.ep_att) (λ x r. record r { ep_att = x })
      ∷ optional_at 5 (codes "largeBlobKey") bytes (λ r. r.large_blob_key) (λ x r. record r { large_blob_key = x })
      ∷ optional_at 6 (codes "unsignedExtensionOutputs") (plain (unsigned make_credential_prf))
      (λ r. r.unsigned_extension_outputs) (λ x r. record r { unsigned_extension_outputs = x })
      ∷ [];
}

-- how a response is decoded
abbrev pub make_response_fields : Fields MakeResponseParts
make_response_fields = numbered_fields make_response

-- the data item that a response is encoded as, and what it keeps undecoded of it: the attestation statement
abbrev pub make_response_tree : MakeResponseParts → Item
make_response_tree = plain_tree make_response

abbrev pub make_response_kept : MakeResponseParts → List Item
make_response_kept r = r.att_stmt ∷ []

-- the authenticator data is coherent, and the encoding has at most `max_depth` nesting levels
abbrev pub is_make_response_coherent : MakeResponseParts → Bool
is_make_response_coherent r = is_coherent r.auth_data && is_shallow make_response r

-- the response that the encoding decodes to
abbrev pub normal_make_response : MakeResponseParts → MakeResponseParts
normal_make_response r = record r { auth_data = normal_data r.auth_data }

-- ---- the attestation object, without attestation (WebAuthn Level 3, section 6.5.4)

abbrev pub no_statement : Item
no_statement = map no_pairs

abbrev pub attestation_places : DataParts → List Place
attestation_places d =
    always (text_string (codes "fmt")) text_string (codes "none")
    ∷ always (text_string (codes "attStmt")) (λ i. i) no_statement
    ∷ always (text_string (codes "authData")) auth_data_tree d
    ∷ []

abbrev pub attestation_tree : DataParts → Item
attestation_tree d = record_tree (attestation_places d)

-- a response with this authenticator data and without attestation
abbrev pub unattested : DataParts → MakeResponseParts
unattested d = record make_response.blank { fmt = codes "none"; auth_data = d; att_stmt = no_statement }
