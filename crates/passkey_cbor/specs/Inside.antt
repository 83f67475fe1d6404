-- What follows the head of a data item (RFC 8949, section 3).
use Rattle.std.specs.Prelude.{◌≡◌, ℕ, ◌≤◌, pos, negsuc, List, [], ◌∷◌, length, Bool, true, false, Option, Some, None}
use Rattle.std.specs.Str.{IsUtf8}
use Rattle.passkey_cbor.specs.Item.{Item, number, byte_string, text_string, array, map, tagged, float, items_of, pairs_of}
use Rattle.passkey_cbor.specs.Depth.{depth}
use Rattle.passkey_cbor.specs.Languages.{Language, Is, Then, Provided, Some_of, Each}
use Rattle.passkey_cbor.specs.Heads.{break}
use Rattle.passkey_cbor.specs.Encoding.{IsEncoding, Chunks, IsAny}
use Rattle.passkey_cbor.specs.LeadingItem.{max_depth}
use Rattle.passkey_cbor.specs.Reading.{simple_item}
use Rattle.passkey_cbor.specs.declared.head.Head.{Head}
use Rattle.passkey_cbor.specs.declared.head.Head.TheVariants as head

-- a data item of at most this many levels, and a pair of such items
abbrev pub Within : ℕ → Item → Language
Within levels x = Provided (depth x ≤ levels) (IsEncoding x)

abbrev pub PairWithin : ℕ → Item × Item → Language
PairWithin levels m = Then (Within levels m.0) (Within levels m.1)

-- the elements that are left of a list: n of them; or, with indefinite length, all of them and a break
abbrev pub Left : {A : Type 0} → (A → Language) → Option ℕ → List A → Language
Left P (Some n) xs = Provided (n ≡ length xs) (Each P xs)
Left P None xs = Then (Each P xs) (Is (break ∷ []))

-- the allowed content, and the major type, of byte strings (false) and text strings (true)
abbrev pub IsAllowed : Bool → List ℕ → Type 0
IsAllowed false = IsAny
IsAllowed true = IsUtf8

abbrev pub major_type : Bool → ℕ
major_type false = 2
major_type true = 3

-- the bytes after a string's head
abbrev pub Content : Bool → Option ℕ → List ℕ → Language
Content is_text (Some n) s = Provided ((n ≡ length s) × IsAllowed is_text s) (Is s)
Content is_text None s = Then (Chunks (IsAllowed is_text) (major_type is_text) s) (Is (break ∷ []))

-- The bytes that follow this head in an encoding of the data item.
abbrev pub Inside : Head → Item → Language
Inside (head.Unsigned n) x = Provided (x ≡ number (pos n)) (Is [])
Inside (head.Negative n) x = Provided (x ≡ number (negsuc n)) (Is [])
Inside (head.Bytes len) x = Some_of (λ s. Provided (x ≡ byte_string s) (Content false len s))
Inside (head.Text len) x = Some_of (λ s. Provided (x ≡ text_string s) (Content true len s))
Inside (head.Array len) x = Some_of (λ xs. Provided (x ≡ array (items_of xs)) (Left (Within max_depth) len xs))
Inside (head.Map len) x = Some_of (λ ms. Provided (x ≡ map (pairs_of ms)) (Left (PairWithin max_depth) len ms))
Inside (head.Tag n) x = Some_of (λ y. Provided (x ≡ tagged n y) (Within max_depth y))
Inside (head.Simple n) x = Provided (x ≡ simple_item n) (Is [])
Inside (head.Float f) x = Provided (x ≡ float f) (Is [])
Inside head.Break x = λ s. ⊥
