-- Inputs of the extension hmac-secret (CTAP 2.1, section 12.5).
use Rattle.std.specs.Prelude.{ℕ, nat_le, Bool, List, [], ◌∷◌, Option, None, codes, true, Result}
use Rattle.passkey_kinds.specs.Words.{depth, max_depth, Item, null, Placed, required_at, optional_at, places_of, EachFits, Fields, fields_with, read_item, nested, record_tree, item_of, byte, item, Coded}
use Rattle.passkey_kinds.specs.Coded.{bytes}
use Rattle.passkey_kinds.specs.declared.fault.Fault.{Fault}
use Rattle.passkey_extensions.specs.declared.hmac_secret.HmacGetSecretInput.{HmacGetSecretInput}

-- what contracts see of an input
pub record HmacInputParts : Type 0 where
  pub key_agreement : Item
  pub salt_enc : List ℕ
  pub salt_auth : List ℕ
  pub pin_uv_auth_protocol : Option ℕ

abbrev pub hmac_input_parts : HmacGetSecretInput → HmacInputParts
hmac_input_parts x = record {
  key_agreement = item_of x.key_agreement;
  salt_enc = x.salt_enc;
  salt_auth = x.salt_auth;
  pin_uv_auth_protocol = x.pin_uv_auth_protocol;
}

abbrev pub hmac_input_members : List (Placed HmacInputParts)
hmac_input_members =
    required_at 1 (codes "keyAgreement") item (λ h. h.key_agreement) (λ x h. record h { key_agreement = x })
    ∷ required_at 2 (codes "saltEnc") bytes (λ h. h.salt_enc) (λ x h. record h { salt_enc = x })
    ∷ required_at 3 (codes "saltAuth") bytes (λ h. h.salt_auth) (λ x h. record h { salt_auth = x })
    ∷ optional_at 4 (codes "pinUvAuthProtocol") byte (λ h. h.pin_uv_auth_protocol)
    (λ x h. record h { pin_uv_auth_protocol = x })
    ∷ []

abbrev pub hmac_input_fields : Fields HmacInputParts
hmac_input_fields = fields_with true
    (record { key_agreement = null; salt_enc = []; salt_auth = []; pin_uv_auth_protocol = None }) hmac_input_members

-- the input that a data item decodes to, or its first fault
abbrev pub read_hmac_input : Item → Result HmacInputParts Fault
read_hmac_input = read_item hmac_input_fields

-- ---- the encoding of an input

abbrev pub hmac_input_tree : HmacInputParts → Item
hmac_input_tree h = record_tree (places_of hmac_input_members h)

-- what holds of every input
abbrev pub HmacInputFits : HmacInputParts → Type 0
HmacInputFits = EachFits hmac_input_members

-- the encoding has at most `max_depth` nesting levels, so it can be decoded again
abbrev pub is_hmac_input_coherent : HmacInputParts → Bool
is_hmac_input_coherent h = nat_le (depth (hmac_input_tree h)) max_depth

-- the data item that an input keeps undecoded: the platform's key
abbrev pub hmac_input_kept : HmacInputParts → List Item
hmac_input_kept h = h.key_agreement ∷ []

-- an input as a member of a record
abbrev pub hmac_coded : Coded HmacInputParts
hmac_coded = record { typed = nested hmac_input_fields; tree = hmac_input_tree; Fits = HmacInputFits }
