-- Values of members, as they are decoded and as they are encoded, and the records of WebAuthn.
use Rattle.passkey_kinds.specs.Base.{ByteMap, Item, boolean, byte_string, text_string, credential_type_named, transport_named, IfPresent, IsData, DataParts, Algorithm, AuthenticatorTransport, Unknown, PublicKeyCredentialDescriptor, PublicKeyCredentialParameters, PublicKeyCredentialUserEntity}
use Rattle.std.specs.Prelude.{◌≡◌, ℕ, ◌<◌, ◌^◌, Bool, List, length, Option, [], ◌∷◌, None, codes}
use Rattle.passkey_iana.specs.declared.algorithm.Algorithm.TheVariants.{ES256}
use Rattle.passkey_kinds.specs.Kind.{aaguid_from, algorithm_from, algorithm_tree, any_from, auth_data_tree, bytes_from, data_from, keeps_data, keeps_item, nothing, sized_bytes_from, text_from, truth_from}
use Rattle.passkey_kinds.specs.Placed.{Coded, PlainTable, EachFits, fields_of, plain_tree, Any, AreBytes, IsByte, required_as, tolerated_as, optional_as}
use Rattle.passkey_kinds.specs.RecordReading.{nested}
use Rattle.passkey_kinds.specs.Tree.{number_tree, option_tree, list_tree, numbers_tree, byte_map_tree, credential_type_tree, transport_tree}
use Rattle.passkey_webauthn.specs.declared.credential_type.PublicKeyCredentialType.{PublicKeyCredentialType}
use Rattle.std.specs.List.{All}
use Rattle.std.specs.FinMap as fin
use Rattle.passkey_core.specs.declared.make_credential.SignedExtensionOutputs as make_credential
use Rattle.passkey_kinds.specs.Typed.{fixed, growing, text_as}
use Rattle.passkey_kinds.specs.Typed as typed
use Rattle.passkey_kinds.specs.declared.wanted.Wanted.TheVariants as wanted
use Rattle.passkey_core.specs.declared.get_assertion.SignedExtensionOutputs as get_assertion

-- ---- values of members, as they are decoded and as they are encoded

abbrev pub truth : Coded Bool
truth = record { typed = fixed 1 wanted.Boolean truth_from; tree = boolean; Fits = Any }

abbrev pub byte : Coded ℕ
byte = record { typed = typed.below 256; tree = number_tree; Fits = IsByte }

abbrev pub word : Coded ℕ
word = record { typed = typed.below (2 ^ 32); tree = number_tree; Fits = λ n. n < 2 ^ 32 }

abbrev pub text : Coded (List ℕ)
text = record { typed = text_as text_from; tree = text_string; Fits = Any }

abbrev pub bytes : Coded (List ℕ)
bytes = record { typed = growing 3 nothing wanted.Bytes bytes_from; tree = byte_string; Fits = Any }

-- exactly this many bytes, encoded as an array of integers
abbrev pub sized_bytes : ℕ → Coded (List ℕ)
sized_bytes n = record {
  typed = fixed 3 (wanted.SizedBytes n) (sized_bytes_from n);
  tree = numbers_tree;
  Fits = AreBytes n;
}

-- exactly 16 bytes
abbrev pub aaguid : Coded (List ℕ)
aaguid = record {
  typed = fixed 2 (wanted.ByteString 16) aaguid_from;
  tree = byte_string;
  Fits = λ s. length s ≡ 16;
}

abbrev pub algorithm : Coded Algorithm
algorithm = record {
  typed = fixed 2 wanted.Algorithm algorithm_from;
  tree = algorithm_tree;
  Fits = Any;
}

-- the type, or `Unknown` for any other item
abbrev pub credential_type : Coded PublicKeyCredentialType
credential_type =
    record { typed = typed.or_else Unknown (typed.one_named credential_type_named); tree = credential_type_tree; Fits = Any }

abbrev pub transport : Coded AuthenticatorTransport
transport = record { typed = typed.one_named transport_named; tree = transport_tree; Fits = Any }

abbrev pub authenticator_data : Coded DataParts
authenticator_data = record {
  typed = growing 6 keeps_data wanted.AuthenticatorData data_from;
  tree = auth_data_tree;
  Fits = IsData;
}

-- any item, unchanged
abbrev pub item : Coded Item
item = record { typed = growing 2 keeps_item wanted.Any any_from; tree = λ i. i; Fits = Any }

-- `None` is encoded as null
abbrev pub or_null : {M : Type 0} → Coded M → Coded (Option M)
or_null c = record {
  typed = typed.optional c.typed;
  tree = λ o. option_tree c.tree o;
  Fits = λ o. IfPresent c.Fits o;
}

abbrev pub list_of : {M : Type 0} → Coded M → Coded (List M)
list_of c = record { typed = typed.list c.typed; tree = list_tree c.tree; Fits = All c.Fits }

-- a list without the elements that are refused
abbrev pub accepted_of : {M : Type 0} → Coded M → Coded (List M)
accepted_of c = record { typed = typed.accepted c.typed; tree = list_tree c.tree; Fits = All c.Fits }

abbrev pub byte_map : {M : Type 0} → Coded M → Coded (ByteMap M)
byte_map c = record {
  typed = typed.map_from_bytes c.typed;
  tree = λ m. byte_map_tree c.tree m;
  Fits = λ m. All (λ e. c.Fits e.1) (fin.entries m);
}

-- a record as a member of another one
abbrev pub plain : {P : Type 0} → PlainTable P → Coded P
plain t = record { typed = nested (fields_of t); tree = plain_tree t; Fits = EachFits t.members }

-- ---- records of WebAuthn in CTAP2's messages, with their members in CTAP2's order (CTAP 2.1, section 6)

-- credential descriptors (WebAuthn Level 3, section 5.8.3)
abbrev pub descriptor : PlainTable PublicKeyCredentialDescriptor
descriptor = record {
  blank = record { ty = Unknown; id = []; transports = None };
  members = required_as 2 (codes "id") bytes (λ d. d.id) (λ x d. record d { id = x })
      ∷ required_as 1 (codes "type") credential_type (λ d. d.ty) (λ x d. record d { ty = x })
      ∷ tolerated_as 3 (codes "transports") (accepted_of transport) (λ d. d.transports) (λ x d. record d { transports = x })
      ∷ [];
}

-- credential parameters (WebAuthn Level 3, section 5.3)
abbrev pub parameters : PlainTable PublicKeyCredentialParameters
parameters = record {
  blank = record { ty = Unknown; alg = ES256 };
  members = required_as 2 (codes "alg") algorithm (λ p. p.alg) (λ x p. record p { alg = x })
      ∷ required_as 1 (codes "type") credential_type (λ p. p.ty) (λ x p. record p { ty = x })
      ∷ [];
}

-- users (WebAuthn Level 3, section 5.4.3)
abbrev pub webauthn_user : PlainTable PublicKeyCredentialUserEntity
webauthn_user = record {
  blank = record { id = []; display_name = []; name = [] };
  members = required_as 1 (codes "id") bytes (λ u. u.id) (λ x u. record u { id = x })
      ∷ required_as 3 (codes "name") text (λ u. u.name) (λ x u. record u { name = x })
      ∷ required_as 2 (codes "displayName") text (λ u. u.display_name) (λ x u. record u { display_name = x })
      ∷ [];
}

-- ---- extension outputs in authenticator data, of a registration and of an assertion (WebAuthn Level 3,
-- section 9.5)

abbrev pub make_credential_signed : PlainTable make_credential.SignedExtensionOutputs
make_credential_signed = record {
  blank = record { hmac_secret = None; hmac_secret_mc = None };
  members = optional_as 1 (codes "hmac-secret") truth (λ o. o.hmac_secret) (λ x o. record o { hmac_secret = x })
      ∷ optional_as 2 (codes "hmac-secret-mc") bytes (λ o. o.hmac_secret_mc) (λ x o. record o { hmac_secret_mc = x })
      ∷ [];
}

abbrev pub get_assertion_signed : PlainTable get_assertion.SignedExtensionOutputs
get_assertion_signed = record {
  blank = record { hmac_secret = None };
  members = optional_as 1 (codes "hmac-secret") bytes (λ o. o.hmac_secret) (λ x o. record o { hmac_secret = x }) ∷ [];
}
