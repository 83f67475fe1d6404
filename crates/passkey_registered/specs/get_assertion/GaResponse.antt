-- authenticatorGetAssertion and authenticatorGetNextAssertion responses, by the standard alone (CTAP 2.2, sections 6.2.2 and 6.3).
use Rattle.std.specs.Prelude.{[], ◌∷◌, List, None, codes, replicate}
use Rattle.passkey_kinds.specs.Coded.{truth}
use Rattle.passkey_kinds.specs.Numbered.{long}
use Rattle.passkey_kinds.specs.Words.{Item, PlainTable, plain, required_at}
use Rattle.passkey_registered.specs.Entities.{descriptor, user}
use Rattle.passkey_registered.specs.Exact.{exact_bytes, hash, present_at}
use Rattle.passkey_registered.specs.Kept.{both_kept, kept_data, kept_map}
use Rattle.passkey_registered.specs.declared.get_assertion.response.Response.{Response}

abbrev pub ga_response : PlainTable Response
ga_response = record {
  blank = record {
    credential = None;
    auth_data = replicate 37 0;
    signature = [];
    user = None;
    number_of_credentials = None;
    user_selected = None;
    large_blob_key = None;
    unsigned_extension_outputs = None;
    ep_att = None;
    att_stmt = None;
  };
  members = present_at 1 (codes "credential") (plain descriptor) (λ r. r.credential) (λ x r. record r { credential = x })
      ∷ required_at 2 (codes "authData") kept_data (λ r. r.auth_data) (λ x r. record r { auth_data = x })
      ∷ required_at 3 (codes "signature") exact_bytes (λ r. r.signature) (λ x r. record r { signature = x })
      ∷ present_at 4 (codes "user") (plain user) (λ r. r.user) (λ x r. record r { user = x })
      ∷ present_at 5 (codes "numberOfCredentials") long (λ r. r.number_of_credentials)
      (λ x r. record r { number_of_credentials = x })
      ∷ present_at 6 (codes "userSelected") truth (λ r. r.user_selected) (λ x r. record r { user_selected = x })
      ∷ present_at 7 (codes "largeBlobKey") hash (λ r. r.large_blob_key) (λ x r. record r { large_blob_key = x })
      ∷ present_at 8 (codes "unsignedExtensionOutputs") kept_map (λ r. r.unsigned_extension_outputs)
      (λ x r. record r { unsigned_extension_outputs = x })
      ∷ present_at 9 (codes "epAtt") truth (λ r. r.ep_att) (λ x r. record r { ep_att = x })
      ∷ present_at 10 (codes "attStmt") kept_map (λ r. r.att_stmt) (λ x r. record r { att_stmt = x })
      ∷ [];
}

-- what a response keeps undecoded
abbrev pub ga_response_kept : Response → List Item
ga_response_kept r = both_kept r.unsigned_extension_outputs r.att_stmt
