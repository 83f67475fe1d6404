-- What is kept undecoded: attestation statements and unsigned extension outputs, which are maps (CTAP 2.2, section 6), and
-- authenticator data (WebAuthn Level 3, section 6.1).
use Rattle.std.specs.Prelude.{◌≡◌, ℕ, List, [], ◌∷◌, ◌++◌, Option, Some, None, option_map}
use Rattle.passkey_cbor.specs.Item as item
use Rattle.passkey_kinds.specs.Kind.{Kind, data_from, keeps_data, keeps_item}
use Rattle.passkey_kinds.specs.Message.{kept_if_some}
use Rattle.passkey_kinds.specs.Placed.{Coded}
use Rattle.passkey_kinds.specs.Typed.{growing}
use Rattle.passkey_kinds.specs.Words.{Item, byte_string}
use Rattle.passkey_kinds.specs.declared.wanted.Wanted.TheVariants as wanted

abbrev pub map_from : Kind Item
map_from (item.map ps) = Some (item.map ps)
map_from _ = None

abbrev pub IsMap : Item → Type 0
IsMap i = map_from i ≡ Some i

abbrev pub kept_map : Coded Item
kept_map = record { typed = growing 2 keeps_item wanted.Map map_from; tree = λ i. i; Fits = IsMap }

-- the items of two optional maps
abbrev pub both_kept : Option Item → Option Item → List Item
both_kept x y = kept_if_some (λ i. i ∷ []) x ++ kept_if_some (λ i. i ∷ []) y

-- the bytes of a byte string that is decoded as authenticator data, whatever they decode to
abbrev pub kept_data_from : Kind (List ℕ)
kept_data_from (byte_string s) = option_map (λ d. s) (data_from (byte_string s))
kept_data_from _ = None

abbrev pub IsAuthenticatorData : List ℕ → Type 0
IsAuthenticatorData s = kept_data_from (byte_string s) ≡ Some s

abbrev pub kept_data : Coded (List ℕ)
kept_data = record {
  typed = growing 6 keeps_data wanted.AuthenticatorData kept_data_from;
  tree = byte_string;
  Fits = IsAuthenticatorData;
}
