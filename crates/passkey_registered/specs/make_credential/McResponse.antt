-- authenticatorMakeCredential responses, by the standard alone (CTAP 2.2, section 6.1.2).
use Rattle.std.specs.Prelude.{[], ◌∷◌, List, None, codes, replicate}
use Rattle.passkey_kinds.specs.Coded.{text, truth}
use Rattle.passkey_kinds.specs.Words.{Item, PlainTable, required_at}
use Rattle.passkey_registered.specs.Exact.{hash, present_at}
use Rattle.passkey_registered.specs.Kept.{both_kept, kept_data, kept_map}
use Rattle.passkey_registered.specs.declared.make_credential.response.Response.{Response}

abbrev pub mc_response : PlainTable Response
mc_response = record {
  blank = record {
    fmt = [];
    auth_data = replicate 37 0;
    att_stmt = None;
    ep_att = None;
    large_blob_key = None;
    unsigned_extension_outputs = None;
  };
  members = required_at 1 (codes "fmt") text (λ r. r.fmt) (λ x r. record r { fmt = x })
      ∷ required_at 2 (codes "authData") kept_data (λ r. r.auth_data) (λ x r. record r { auth_data = x })
      ∷ present_at 3 (codes "attStmt") kept_map (λ r. r.att_stmt) (λ x r. record r { att_stmt = x })
      ∷ present_at 4 (codes "epAtt") truth (λ r. r.ep_att) (λ x r. record r { ep_att = x })
      ∷ present_at 5 (codes "largeBlobKey") hash (λ r. r.large_blob_key) (λ x r. record r { large_blob_key = x })
      ∷ present_at 6 (codes "unsignedExtensionOutputs") kept_map (λ r. r.unsigned_extension_outputs)
      (λ x r. record r { unsigned_extension_outputs = x })
      ∷ [];
}

-- what a response keeps undecoded
abbrev pub mc_response_kept : Response → List Item
mc_response_kept r = both_kept r.att_stmt r.unsigned_extension_outputs
