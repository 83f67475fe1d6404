-- Map keys that the names of members in a JSON object are.
use Rattle.std.specs.Prelude.{ℕ, ◌==◌, if◌then◌else◌, List, [], ◌∷◌, Option, Some, None, option_map, Ok}
use Rattle.std.specs.Option.{option_and_then}
use Rattle.std.specs.Result.{result_ok}
use Rattle.hex.specs.Hex.{decode_of}
use Rattle.passkey_cbor.specs.Item.{Item, number, text_string}
use Rattle.passkey_cbor.specs.LeadingItemAt.{leading_item_at}
use Rattle.passkey_cbor_text.specs.values.Integers.{integer_in}
use Rattle.passkey_cbor_text.specs.values.NoItem.{Read, or_reason}
use Rattle.passkey_cbor_text.specs.declared.values.no_item.ItemReason.TheVariants as reason

-- ---- data items by their encodings, in hexadecimal

-- the data item, if no bytes come after it
abbrev pub alone : Option (Item × List ℕ) → Option Item
alone (Some (i, [])) = Some i
alone (Some (i, b ∷ bs)) = None
alone None = None

abbrev pub bytes_item : List ℕ → Option Item
bytes_item bytes = alone (leading_item_at bytes)

abbrev pub hex_item : List ℕ → Option Item
hex_item digits = option_and_then bytes_item (result_ok (decode_of digits))

abbrev pub encoding_item : List ℕ → Read Item
encoding_item digits = or_reason reason.Encoding (hex_item digits)

abbrev pub number_item : List ℕ → Read Item
number_item text = or_reason reason.Integer (option_map number (integer_in text))

-- ---- keys

-- `$` and the key's encoding in hexadecimal; `#` and an integer; or what another name is
abbrev pub key_item : (List ℕ → Read Item) → List ℕ → Read Item
key_item plain [] = plain []
key_item plain (c ∷ cs) =
    if c == 36 then encoding_item cs else if c == 35 then number_item cs else plain (c ∷ cs)

-- a key of a map that no table divides
abbrev pub any_key : List ℕ → Read Item
any_key = key_item (λ name. Ok (text_string name))
