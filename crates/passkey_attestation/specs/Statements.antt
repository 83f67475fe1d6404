-- Attestation statements that are maps, by their formats (WebAuthn Level 3, sections 8.2 to 8.6, 8.8 and 8.9).
use Rattle.std.specs.Prelude.{ℕ, List, [], ◌∷◌, None, codes, pos}
use Rattle.passkey_attestation.specs.AlgorithmIdentifier.{algorithm_identifier, identifier_of}
use Rattle.passkey_attestation.specs.declared.android_key.AndroidKeyStatement.{AndroidKeyStatement}
use Rattle.passkey_attestation.specs.declared.apple.AppleStatement.{AppleStatement}
use Rattle.passkey_attestation.specs.declared.compound.CompoundElement.{CompoundElement}
use Rattle.passkey_attestation.specs.declared.fido_u2f.FidoU2fStatement.{FidoU2fStatement}
use Rattle.passkey_attestation.specs.declared.packed.PackedStatement.{PackedStatement}
use Rattle.passkey_attestation.specs.declared.safety_net.SafetyNetStatement.{SafetyNetStatement}
use Rattle.passkey_attestation.specs.declared.tpm.TpmStatement.{TpmStatement}
use Rattle.passkey_kinds.specs.Coded.{bytes, item, list_of, text}
use Rattle.passkey_kinds.specs.Words.{Item, PlainTable, item_of, null, optional_as, required_as}

-- section 8.2
abbrev pub packed : PlainTable PackedStatement
packed = record {
  blank = record { alg = identifier_of (pos 0); sig = []; x5c = None; ecdaa_key_id = None };
  members = required_as 1 (codes "alg") algorithm_identifier (λ r. r.alg) (λ x r. record r { alg = x })
      ∷ required_as 2 (codes "sig") bytes (λ r. r.sig) (λ x r. record r { sig = x })
      ∷ optional_as 3 (codes "x5c") (list_of bytes) (λ r. r.x5c) (λ x r. record r { x5c = x })
      ∷ optional_as 4 (codes "ecdaaKeyId") bytes (λ r. r.ecdaa_key_id) (λ x r. record r { ecdaa_key_id = x })
      ∷ [];
}

-- section 8.3
abbrev pub tpm : PlainTable TpmStatement
tpm = record {
  blank = record { alg = identifier_of (pos 0); sig = []; ver = []; x5c = []; pub_area = []; cert_info = [] };
  members = required_as 1 (codes "alg") algorithm_identifier (λ r. r.alg) (λ x r. record r { alg = x })
      ∷ required_as 2 (codes "sig") bytes (λ r. r.sig) (λ x r. record r { sig = x })
      ∷ required_as 3 (codes "ver") text (λ r. r.ver) (λ x r. record r { ver = x })
      ∷ required_as 4 (codes "x5c") (list_of bytes) (λ r. r.x5c) (λ x r. record r { x5c = x })
      ∷ required_as 5 (codes "pubArea") bytes (λ r. r.pub_area) (λ x r. record r { pub_area = x })
      ∷ required_as 6 (codes "certInfo") bytes (λ r. r.cert_info) (λ x r. record r { cert_info = x })
      ∷ [];
}

-- section 8.4
abbrev pub android_key : PlainTable AndroidKeyStatement
android_key = record {
  blank = record { alg = identifier_of (pos 0); sig = []; x5c = [] };
  members = required_as 1 (codes "alg") algorithm_identifier (λ r. r.alg) (λ x r. record r { alg = x })
      ∷ required_as 2 (codes "sig") bytes (λ r. r.sig) (λ x r. record r { sig = x })
      ∷ required_as 3 (codes "x5c") (list_of bytes) (λ r. r.x5c) (λ x r. record r { x5c = x })
      ∷ [];
}

-- section 8.5
abbrev pub safety_net : PlainTable SafetyNetStatement
safety_net = record {
  blank = record { ver = []; response = [] };
  members = required_as 1 (codes "ver") text (λ r. r.ver) (λ x r. record r { ver = x })
      ∷ required_as 2 (codes "response") bytes (λ r. r.response) (λ x r. record r { response = x })
      ∷ [];
}

-- section 8.6
abbrev pub fido_u2f : PlainTable FidoU2fStatement
fido_u2f = record {
  blank = record { sig = []; x5c = [] };
  members = required_as 1 (codes "sig") bytes (λ r. r.sig) (λ x r. record r { sig = x })
      ∷ required_as 2 (codes "x5c") (list_of bytes) (λ r. r.x5c) (λ x r. record r { x5c = x })
      ∷ [];
}

-- section 8.8
abbrev pub apple : PlainTable AppleStatement
apple = record {
  blank = record { alg = None; x5c = [] };
  members = optional_as 1 (codes "alg") algorithm_identifier (λ r. r.alg) (λ x r. record r { alg = x })
      ∷ required_as 2 (codes "x5c") (list_of bytes) (λ r. r.x5c) (λ x r. record r { x5c = x })
      ∷ [];
}

-- ---- elements of a compound statement

-- what contracts see of an element
pub record ElementParts : Type 0 where
  pub fmt : List ℕ
  pub att_stmt : Item

abbrev pub element_parts : CompoundElement → ElementParts
element_parts e = record { fmt = e.fmt; att_stmt = item_of e.att_stmt }

-- section 8.9
abbrev pub element : PlainTable ElementParts
element = record {
  blank = record { fmt = []; att_stmt = null };
  members = required_as 1 (codes "fmt") text (λ r. r.fmt) (λ x r. record r { fmt = x })
      ∷ required_as 2 (codes "attStmt") item (λ r. r.att_stmt) (λ x r. record r { att_stmt = x })
      ∷ [];
}
