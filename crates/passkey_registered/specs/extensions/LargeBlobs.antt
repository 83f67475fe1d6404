-- Inputs and outputs of the extension largeBlob, as platforms send them to authenticators (WebAuthn Level 3, section 10.1.5).
use Rattle.std.specs.Prelude.{◌≡◌, ◌≤◌, [], ◌∷◌, None, codes}
use Rattle.passkey_registered.specs.declared.extensions.large_blob.LargeBlobMakeInputs.{LargeBlobMakeInputs}
use Rattle.passkey_registered.specs.declared.extensions.large_blob.LargeBlobGetInputs.{LargeBlobGetInputs}
use Rattle.passkey_registered.specs.declared.extensions.large_blob.LargeBlobMakeOutputs.{LargeBlobMakeOutputs}
use Rattle.passkey_registered.specs.declared.extensions.large_blob.LargeBlobGetOutputs.{LargeBlobGetOutputs}
use Rattle.passkey_kinds.specs.Coded.{bytes, text, truth}
use Rattle.passkey_kinds.specs.Numbered.{long}
use Rattle.passkey_kinds.specs.Words.{EachFits, IsReadBack, PlainTable, depth, fields_of, optional_as, plain_kind, plain_tree, record_cost}
use Rattle.passkey_cbor.specs.Canonical.{IsOrdered}

-- Records of this table decode to themselves, and nothing nests in them.
pub record IsFlat {P : Type 0} (t : PlainTable P) : Type 0 where
  pub back : IsReadBack (plain_kind t) (plain_tree t) (EachFits t.members) (λ r. r)
  pub levels : (r : P) → depth (plain_tree t r) ≤ 1
  pub order : (r : P) → IsOrdered (plain_tree t r)
  pub cost : record_cost (fields_of t) ≡ 4

abbrev pub blob_make_inputs : PlainTable LargeBlobMakeInputs
blob_make_inputs = record {
  blank = record { support = None };
  members = optional_as 1 (codes "support") text (λ r. r.support) (λ x r. record r { support = x })
      ∷ [];
}

abbrev pub blob_get_inputs : PlainTable LargeBlobGetInputs
blob_get_inputs = record {
  blank = record { read = None; write = None; original_size = None };
  members = optional_as 1 (codes "read") truth (λ r. r.read) (λ x r. record r { read = x })
      ∷ optional_as 2 (codes "write") bytes (λ r. r.write) (λ x r. record r { write = x })
      ∷ optional_as 3 (codes "originalSize") long (λ r. r.original_size) (λ x r. record r { original_size = x })
      ∷ [];
}

abbrev pub blob_make_outputs : PlainTable LargeBlobMakeOutputs
blob_make_outputs = record {
  blank = record { supported = None };
  members = optional_as 1 (codes "supported") truth (λ r. r.supported) (λ x r. record r { supported = x })
      ∷ [];
}

abbrev pub blob_get_outputs : PlainTable LargeBlobGetOutputs
blob_get_outputs = record {
  blank = record { blob = None; written = None; original_size = None };
  members = optional_as 1 (codes "blob") bytes (λ r. r.blob) (λ x r. record r { blob = x })
      ∷ optional_as 2 (codes "written") truth (λ r. r.written) (λ x r. record r { written = x })
      ∷ optional_as 3 (codes "originalSize") long (λ r. r.original_size) (λ x r. record r { original_size = x })
      ∷ [];
}
