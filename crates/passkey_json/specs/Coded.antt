-- How values are coded as JSON values: decoded, and encoded.
use denote.Enum.Declared.{Declared}
use Rattle.std.specs.Prelude.{ℕ, ℤ, Bool, false, List}
use Rattle.passkey_bytes.specs.Map.{ByteMap}
use Rattle.passkey_iana.specs.declared.algorithm.Algorithm.{Algorithm}
use Rattle.passkey_json.specs.Kind.{Kind, algorithm, bytes, is_array, is_object, is_text, is_text_or_array, list, one_named, text, truth, truth_text, whole, word}
use Rattle.passkey_json.specs.MapKind.{map_from_texts, map_json}
use Rattle.passkey_json.specs.Along.{Sound, Strict, accepts, leaf_strict, list_shape, list_strict, map_shape, map_strict}
use Rattle.passkey_json.specs.Shape.{Shape, leaf}
use Rattle.passkey_json.specs.declared.wanted.WantedJson.{WantedJson}
use Rattle.passkey_json.specs.declared.wanted.WantedJson.TheVariants as want
use Rattle.passkey_json.specs.Written.{algorithm_json, bytes_json, list_json, natural_json, whole_json}
use Rattle.passkey_json.specs.declared.bytes_form.BytesForm.{BytesForm}
use Rattle.passkey_webauthn.specs.CredentialType.{credential_types}
use Rattle.passkey_webauthn.specs.Names.{Names, own_name, value_in}
use Rattle.passkey_webauthn.specs.Transport.{transports}
use Rattle.passkey_webauthn.specs.contracts.credential_type.PublicKeyCredentialType.{the_type as credential_type}
use Rattle.passkey_webauthn.specs.contracts.transport.AuthenticatorTransport.{the_type as transport}
use Rattle.passkey_webauthn.specs.declared.credential_type.PublicKeyCredentialType.{PublicKeyCredentialType}
use Rattle.passkey_webauthn.specs.declared.transport.AuthenticatorTransport.{AuthenticatorTransport}
use Rattle.serde_json.specs.Data.{Data, boolean, string}

-- how a value is decoded, which JSON values may take memory to decode, how it is encoded, and what it is decoded from,
-- part by part, by which is found what is to blame
pub record Coded (M : Type 0) : Type 0 where
  pub kind : Kind M
  pub takes : Data → Bool
  pub json : BytesForm → M → Data
  pub shape : Shape
  pub strict : Strict (accepts kind) shape
  pub sound : Sound shape

-- a value that takes no memory to decode, and is encoded without bytes
abbrev small_value : {M : Type 0} → WantedJson → Kind M → (M → Data) → Coded M
small_value w kind json = record {
  kind = kind;
  takes = λ d. false;
  json = λ form x. json x;
  shape = leaf w;
  strict = leaf_strict (accepts kind) w;
  sound = tt;
}

abbrev pub truth_value : Coded Bool
truth_value = small_value want.Boolean truth boolean

abbrev pub truth_text_value : Coded Bool
truth_text_value = small_value want.BooleanText truth_text boolean

abbrev pub word_value : Coded ℕ
word_value = small_value want.Word word natural_json

abbrev pub whole_value : Coded ℤ
whole_value = small_value want.Integer whole whole_json

abbrev pub algorithm_value : Coded Algorithm
algorithm_value = small_value want.Algorithm algorithm algorithm_json

-- a value of an enumeration, by its name
abbrev pub named_value : (D : Declared) → Names D.D → Coded D.D
named_value D names = small_value want.Name (one_named (value_in names)) (λ x. string (own_name D names x))

abbrev pub credential_type_value : Coded PublicKeyCredentialType
credential_type_value = named_value credential_type credential_types

abbrev pub transport_value : Coded AuthenticatorTransport
transport_value = named_value transport transports

abbrev pub text_value : Coded (List ℕ)
text_value = record {
  kind = text;
  takes = is_text;
  json = λ form s. string s;
  shape = leaf want.Text;
  strict = leaf_strict (accepts text) want.Text;
  sound = tt;
}

abbrev pub bytes_value : Coded (List ℕ)
bytes_value = record {
  kind = bytes;
  takes = is_text_or_array;
  json = bytes_json;
  shape = leaf want.Bytes;
  strict = leaf_strict (accepts bytes) want.Bytes;
  sound = tt;
}

abbrev pub list_value : {M : Type 0} → Coded M → Coded (List M)
list_value c = record {
  kind = list c.kind;
  takes = is_array;
  json = λ form. list_json (c.json form);
  shape = list_shape c.kind c.shape;
  strict = list_strict c.kind c.shape c.strict;
  sound = c.sound;
}

abbrev pub map_value : {M : Type 0} → Coded M → Coded (ByteMap M)
map_value c = record {
  kind = map_from_texts c.kind;
  takes = is_object;
  json = λ form. map_json (c.json form);
  shape = map_shape c.kind c.shape;
  strict = map_strict c.kind c.shape c.strict;
  sound = c.sound;
}
