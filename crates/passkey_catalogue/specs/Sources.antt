-- The standards that define what inputs of the kinds are, and their sections.
use Rattle.std.specs.Prelude.{ℕ, List, codes}
use Rattle.passkey_catalogue.specs.ClientKinds.{client_source}
use Rattle.passkey_catalogue.specs.CtapKinds.{ctap_source}
use Rattle.passkey_catalogue.specs.declared.kind.Kind.{Kind}
use Rattle.passkey_catalogue.specs.declared.kind.Kind.TheVariants as kind
use Rattle.passkey_rewrite.specs.declared.kind.BytesKind.{BytesKind}
use Rattle.passkey_rewrite.specs.declared.kind.BytesKind.TheVariants as bytes
use Rattle.passkey_rewrite.specs.declared.kind.JsonKind.{JsonKind}
use Rattle.passkey_rewrite.specs.declared.kind.JsonKind.TheVariants as json

abbrev pub bytes_source : BytesKind → List ℕ
bytes_source bytes.Cbor = codes "RFC 8949"
bytes_source bytes.Auth = codes "WebAuthn Level 3, section 6.1"
bytes_source bytes.MakeRequest = codes "CTAP 2.1, section 6.1"
bytes_source bytes.MakeResponse = codes "CTAP 2.1, section 6.1"
bytes_source bytes.GetRequest = codes "CTAP 2.1, section 6.2"
bytes_source bytes.GetResponse = codes "CTAP 2.1, section 6.2"
bytes_source bytes.Info = codes "CTAP 2.1, section 6.4"
bytes_source bytes.HmacInput = codes "CTAP 2.1, section 12.5"

abbrev pub json_source : JsonKind → List ℕ
json_source json.Creation = codes "WebAuthn Level 3, section 5.1.1"
json_source json.Request = codes "WebAuthn Level 3, section 5.1.2"
json_source json.Created = codes "WebAuthn Level 3, section 5.1"
json_source json.Authenticated = codes "WebAuthn Level 3, section 5.1"
json_source json.ClientData = codes "WebAuthn Level 3, section 5.8.1"

abbrev pub source_of : Kind → List ℕ
source_of (kind.Bytes k) = bytes_source k
source_of (kind.Json k) = json_source k
source_of (kind.Ctap k) = ctap_source k
source_of (kind.Client k) = client_source k
