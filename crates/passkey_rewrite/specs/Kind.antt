-- The kinds of input, and the words that name them.
use Rattle.std.specs.Prelude.{◌≡◌, ℕ, List, [], ◌∷◌, if◌then◌else◌, Option, Some, None, codes, refl}
use Rattle.std.specs.Str.{bytes_eq}
use Rattle.passkey_rewrite.specs.contracts.kind.BytesKind.{the_type as the_bytes_kind}
use Rattle.passkey_rewrite.specs.contracts.kind.JsonKind.{the_type as the_json_kind}
use Rattle.passkey_rewrite.specs.declared.kind.BytesKind.{BytesKind}
use Rattle.passkey_rewrite.specs.declared.kind.BytesKind.TheVariants as bytes
use Rattle.passkey_rewrite.specs.declared.kind.JsonKind.{JsonKind}
use Rattle.passkey_rewrite.specs.declared.kind.JsonKind.TheVariants as json
use Rattle.passkey_rewrite.specs.declared.kind.Kind.{Kind}
use Rattle.passkey_rewrite.specs.declared.kind.Kind.TheVariants.{Bytes, Json, Check}
use Rattle.passkey_webauthn.specs.Names.{Names, own_name, value_in}

abbrev pub bytes_kinds : Names BytesKind
bytes_kinds = (codes "cbor", bytes.Cbor)
    ∷ (codes "auth", bytes.Auth)
    ∷ (codes "mc-request", bytes.MakeRequest)
    ∷ (codes "mc-response", bytes.MakeResponse)
    ∷ (codes "ga-request", bytes.GetRequest)
    ∷ (codes "ga-response", bytes.GetResponse)
    ∷ (codes "info", bytes.Info)
    ∷ (codes "hmac-input", bytes.HmacInput)
    ∷ []

pub bytes_kinds_own : (x : BytesKind) → value_in bytes_kinds (own_name the_bytes_kind bytes_kinds x) ≡ Some x
bytes_kinds_own bytes.Cbor = refl
bytes_kinds_own _ = refl

abbrev pub json_kinds : Names JsonKind
json_kinds = (codes "creation", json.Creation)
    ∷ (codes "request", json.Request)
    ∷ (codes "created", json.Created)
    ∷ (codes "authenticated", json.Authenticated)
    ∷ (codes "client-data", json.ClientData)
    ∷ []

pub json_kinds_own : (x : JsonKind) → value_in json_kinds (own_name the_json_kind json_kinds x) ≡ Some x
json_kinds_own json.Creation = refl
json_kinds_own _ = refl

-- the first of three, where one is there
abbrev first_kind : Option BytesKind → Option JsonKind → Option Kind → Option Kind
first_kind (Some k) j other = Some (Bytes k)
first_kind None (Some k) other = Some (Json k)
first_kind None None other = other

-- the kind that a word names
unfoldable pub kind_named : List ℕ → Option Kind
kind_named word =
    first_kind (value_in bytes_kinds word) (value_in json_kinds word)
    (if bytes_eq word (codes "check") then Some Check else None)
