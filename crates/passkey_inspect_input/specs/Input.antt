-- The form of an input, and the bytes that it spells.
use Rattle.std.specs.Prelude.{ℕ, List, [], ◌∷◌, Bool, false, ◌==◌, ◌||◌, if◌then◌else◌, Option, Some, is_some, flat_map, encode_utf8}
use Rattle.std.specs.Result.{result_ok}
use Rattle.hex.specs.Hex.{decode_of}
use Rattle.passkey_bytes.specs.Encoding.{base64url_bytes}
use Rattle.passkey_inspect_input.specs.Dump.{is_dump, spelled_from}
use Rattle.passkey_inspect_input.specs.declared.Form.{Form}
use Rattle.passkey_inspect_input.specs.declared.Form.TheVariants.{Hexadecimal, Base64, Json, Raw}
use Rattle.passkey_inspect_input.specs.declared.dump.Place.TheVariants.{Offset}

-- a tab, a line feed, a carriage return or a space
abbrev pub is_space : ℕ → Bool
is_space byte = byte == 9 || byte == 10 || byte == 13 || byte == 32

-- white space, a colon, a double or a single quote, or a comma
abbrev pub is_separator : ℕ → Bool
is_separator byte = is_space byte || byte == 58 || byte == 34 || byte == 39 || byte == 44

-- a byte of hexadecimal, unless it is a separator
abbrev pub hex_text : ℕ → List ℕ
hex_text byte = if is_separator byte then [] else byte ∷ []

-- the digits: without `0x` or `h` at the beginning
abbrev pub digits_of : List ℕ → List ℕ
digits_of [] = []
digits_of (first ∷ []) = if first == 104 then [] else first ∷ []
digits_of (first ∷ second ∷ digits) =
    if first == 104 then second ∷ digits
    else if first == 48 then (if second == 120 || second == 88 then digits else first ∷ second ∷ digits)
    else first ∷ second ∷ digits

abbrev pub digit_bytes : List ℕ → Option (List ℕ)
digit_bytes text = result_ok (decode_of (digits_of (flat_map hex_text text)))

abbrev pub hex_bytes : List ℕ → Option (List ℕ)
hex_bytes input = if is_dump input then digit_bytes (spelled_from Offset input) else digit_bytes input

-- the symbol of base64url for one of base64
abbrev pub url_symbol : ℕ → ℕ
url_symbol byte = if byte == 43 then 45 else if byte == 47 then 95 else byte

-- a symbol of base64url, unless it is white space, a double quote or a comma
abbrev pub symbol_text : ℕ → List ℕ
symbol_text byte = if is_space byte || byte == 34 || byte == 44 then [] else encode_utf8 (url_symbol byte)

abbrev pub base64_bytes : List ℕ → Option (List ℕ)
base64_bytes input = base64url_bytes (flat_map symbol_text input)

-- the first byte after white space is a brace
abbrev pub begins_json : List ℕ → Bool
begins_json [] = false
begins_json (byte ∷ rest) = if is_space byte then begins_json rest else byte == 123

-- the bytes that an input spells in a form
abbrev pub bytes_as : Form → List ℕ → Option (List ℕ)
bytes_as Hexadecimal input = hex_bytes input
bytes_as Base64 input = base64_bytes input
bytes_as Json input = Some input
bytes_as Raw input = Some input

abbrev pub form_of : List ℕ → Form
form_of input =
    if begins_json input then Json
    else if is_dump input then Hexadecimal
    else if is_some (hex_bytes input) then Hexadecimal
    else if is_some (base64_bytes input) then Base64
    else Raw
