-- Attestation objects (WebAuthn Level 3, section 6.5.4).
use Rattle.std.specs.Prelude.{[], ◌∷◌, List, None, Some, codes, replicate}
use Rattle.passkey_cbor.specs.Item.{map, no_pairs}
use Rattle.passkey_kinds.specs.Coded.{text}
use Rattle.passkey_kinds.specs.Numbered.{kept_item}
use Rattle.passkey_kinds.specs.Words.{Item, PlainTable, required_as}
use Rattle.passkey_registered.specs.Kept.{both_kept, kept_data}
use Rattle.passkey_registered.specs.declared.make_credential.attestation_object.AttestationObject.{AttestationObject}
use Rattle.passkey_registered.specs.declared.make_credential.response.Response.{Response}

-- a member has its name, and is also decoded under its number in a response
abbrev pub attestation_object : PlainTable AttestationObject
attestation_object = record {
  blank = record { fmt = []; att_stmt = map no_pairs; auth_data = replicate 37 0 };
  members = required_as 1 (codes "fmt") text (λ o. o.fmt) (λ x o. record o { fmt = x })
      ∷ required_as 3 (codes "attStmt") kept_item (λ o. o.att_stmt) (λ x o. record o { att_stmt = x })
      ∷ required_as 2 (codes "authData") kept_data (λ o. o.auth_data) (λ x o. record o { auth_data = x })
      ∷ [];
}

-- what an attestation object keeps undecoded
abbrev pub attestation_object_kept : AttestationObject → List Item
attestation_object_kept o = both_kept (Some o.att_stmt) None

-- the object of a response with this attestation statement
abbrev pub object_of : Response → Item → AttestationObject
object_of r s = record { fmt = r.fmt; att_stmt = s; auth_data = r.auth_data }

-- the response with an object's members alone, and this map as its attestation statement
abbrev pub response_of : AttestationObject → Item → Response
response_of o s = record {
  fmt = o.fmt;
  auth_data = o.auth_data;
  att_stmt = Some s;
  ep_att = None;
  large_blob_key = None;
  unsigned_extension_outputs = None;
}
