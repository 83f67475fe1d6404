-- The bytes of a data item in diagnostic notation, with encoding indicators (RFC 8949, sections 3 and 8.1): a string of
-- indefinite length with its chunks, and what is encoded in more bytes than it needs.
use Rattle.std.specs.Prelude.{◌≡◌, ℕ, zero, suc, ◌-◌, ◌%◌, ◌^◌, negsuc, List, [], ◌∷◌, ◌++◌, length, drop, Bool, true, false}
use Rattle.std.specs.Prelude.{not, ◌==◌, ◌&&◌, nat_lt, if◌then◌else◌, codes, decimal, Option, Some, None, Result, Ok, Err}
use Rattle.std.specs.Borrow.{Bor}
use Rattle.std.specs.Fmt.{signed_decimal}
use Rattle.hex.specs.Hex.{encode_lower}
use Rattle.passkey_cbor.specs.EncodedAt.{goes_on}
use Rattle.passkey_cbor.specs.HeadReading.{◌>>=◌, Read, head_at}
use Rattle.passkey_cbor.specs.Reading.{piece_at, chunk_len}
use Rattle.passkey_cbor.specs.LeadingItem.{max_depth}
use Rattle.passkey_cbor.specs.declared.head.Head.{Head}
use Rattle.passkey_cbor.specs.declared.head.Head.TheVariants as head
use Rattle.passkey_cbor_text.specs.diagnose.Diagnosis.{deeper, separator, closing}
use Rattle.passkey_cbor_text.specs.diagnose.FloatText.{float_text}
use Rattle.passkey_cbor_text.specs.diagnose.Quoted.{quoted}

-- What begins the bytes is appended to the text so far: the text with it, and the bytes after it; `None` if it isn't
-- well-formed.
abbrev pub Tell : Type 0
Tell = List ℕ → List ℕ → Read (List ℕ)

-- ---- encoding indicators

-- the additional information of the head that begins the bytes
abbrev pub info_of : List ℕ → ℕ
info_of [] = 0
info_of (b ∷ bytes) = b % 32

-- of an argument in more bytes than it needs, by the additional information: 24 + n is item_after as _n
abbrev pub mark : ℕ → ℕ → List ℕ
mark info n =
    if info == 24 && nat_lt n 24 then codes "_0"
    else if info == 25 && nat_lt n (2 ^ 8) then codes "_1"
    else if info == 26 && nat_lt n (2 ^ 16) then codes "_2"
    else if info == 27 && nat_lt n (2 ^ 32) then codes "_3"
    else []

-- of a length, which is indefinite or not
abbrev pub length_mark : ℕ → Option ℕ → List ℕ
length_mark info (Some n) = mark info n
length_mark info None = 95 ∷ []

-- what stands between an indicator and the first part, if the text is one line
abbrev pub gap : List ℕ → List ℕ → List ℕ
gap [] margin = []
gap (c ∷ indicator) [] = 32 ∷ []
gap (c ∷ indicator) (byte ∷ margin) = []

-- ---- lists: as many parts as are left, or, with indefinite length, up to a break

abbrev pub fewer : Option ℕ → Option ℕ
fewer (Some n) = Some (n - 1)
fewer None = None

-- the bytes after the last part
abbrev pub after_last : Option ℕ → List ℕ → List ℕ
after_last (Some n) bytes = bytes
after_last None bytes = drop 1 bytes

-- each part has at least one byte, so the number of bytes bounds that of the parts
unfoldable pub parts_text : Tell → List ℕ → ℕ → Option ℕ → Bool → Tell
parts_text tell margin zero left is_first bytes out =
    if goes_on left bytes then None else Some (out, after_last left bytes)
parts_text tell margin (suc others) left is_first bytes out =
    if goes_on left bytes
    then (tell bytes (out ++ separator is_first margin) >>= λ x. parts_text tell margin others (fewer left) false x.1 x.0)
    else Some (out, after_last left bytes)

abbrev pub all_parts : Tell → List ℕ → Option ℕ → Tell
all_parts tell margin len bytes out = parts_text tell margin (length bytes) len true bytes out

-- ---- strings

abbrev pub string_text : Bool → List ℕ → List ℕ
string_text is_text s = if is_text then quoted s else codes "h'" ++ encode_lower s ++ 39 ∷ []

-- a string, or a chunk, of this length
abbrev pub piece_text : Bool → List ℕ → ℕ → Tell
piece_text is_text indicator n bytes out =
    piece_at is_text n bytes >>= λ p. Some (out ++ (string_text is_text p.0 ++ indicator), p.1)

unfoldable pub chunk_text : Bool → Tell
chunk_text is_text bytes out =
    head_at bytes >>= λ h. chunk_len is_text h.0 >>= λ n. piece_text is_text (mark (info_of bytes) n) n h.1 out

abbrev pub empty_text : Bool → List ℕ
empty_text is_text = if is_text then codes "\"\"_" else codes "''_"

-- the chunks up to the break
abbrev pub chunks_text : Bool → Tell
chunks_text is_text bytes out =
    if goes_on None bytes
    then (all_parts (chunk_text is_text) [] None bytes (out ++ codes "(_ ") >>= λ x. Some (x.0 ++ 41 ∷ [], x.1))
    else Some (out ++ empty_text is_text, drop 1 bytes)

unfoldable pub string_after : Bool → ℕ → Option ℕ → Tell
string_after is_text info (Some n) = piece_text is_text (mark info n) n
string_after is_text info None = chunks_text is_text

-- ---- arrays and maps

-- an element, or a key and a value
abbrev pub member_text : Tell → Bool → Tell
member_text tell is_map bytes out =
    if is_map then (tell bytes out >>= λ k. tell k.1 (k.0 ++ 58 ∷ 32 ∷ [])) else tell bytes out

abbrev pub opening_of : Bool → ℕ
opening_of is_map = if is_map then 123 else 91

abbrev pub closing_of : Bool → ℕ
closing_of is_map = if is_map then 125 else 93

-- `tell` tells a data item inside, by the margin
unfoldable pub list_after : (List ℕ → Tell) → Bool → List ℕ → List ℕ → Option ℕ → Tell
list_after tell is_map margin indicator len bytes out =
    all_parts (member_text (tell (deeper margin)) is_map) (deeper margin) len bytes
    (out ++ opening_of is_map ∷ (indicator ++ gap indicator margin)) >>= λ x.
    Some (x.0 ++ (closing (not (goes_on len bytes)) margin ++ closing_of is_map ∷ []), x.1)

-- a tag number, whose content `tell` tells
unfoldable pub tag_after : (List ℕ → Tell) → List ℕ → List ℕ → ℕ → Tell
tag_after tell margin indicator n bytes out =
    tell margin bytes (out ++ (decimal n ++ (indicator ++ 40 ∷ []))) >>= λ x. Some (x.0 ++ 41 ∷ [], x.1)

-- ---- data items

abbrev pub simple_text : ℕ → List ℕ
simple_text n =
    if n == 20 then codes "false"
    else if n == 21 then codes "true"
    else if n == 22 then codes "null"
    else if n == 23 then codes "undefined"
    else codes "simple(" ++ decimal n ++ 41 ∷ []

-- A data item whose head, with this additional information, is in front of the bytes. `inner` tells those one level
-- deeper, if another level is allowed.
unfoldable pub item_after : Option (List ℕ → Tell) → List ℕ → ℕ → Head → Tell
item_after inner margin info (head.Unsigned n) bytes out = Some (out ++ (decimal n ++ mark info n), bytes)
item_after inner margin info (head.Negative n) bytes out = Some (out ++ (signed_decimal (negsuc n) ++ mark info n), bytes)
item_after inner margin info (head.Bytes len) bytes out = string_after false info len bytes out
item_after inner margin info (head.Text len) bytes out = string_after true info len bytes out
item_after inner margin info (head.Array len) bytes out =
    inner >>= λ tell. list_after tell false margin (length_mark info len) len bytes out
item_after inner margin info (head.Map len) bytes out =
    inner >>= λ tell. list_after tell true margin (length_mark info len) len bytes out
item_after inner margin info (head.Tag n) bytes out =
    inner >>= λ tell. tag_after tell margin (mark info n) n bytes out
item_after inner margin info (head.Simple n) bytes out = Some (out ++ simple_text n, bytes)
item_after inner margin info (head.Float f) bytes out = Some (out ++ float_text f, bytes)
item_after inner margin info head.Break bytes out = None

-- a data item of at most this many levels
unfoldable pub item_text : ℕ → List ℕ → Tell
item_text zero margin bytes out = head_at bytes >>= λ h. item_after None margin (info_of bytes) h.0 h.1 out
item_text (suc levels) margin bytes out =
    head_at bytes >>= λ h. item_after (Some (item_text levels)) margin (info_of bytes) h.0 h.1 out

abbrev pub inner_of : ℕ → Option (List ℕ → Tell)
inner_of zero = None
inner_of (suc levels) = Some (item_text levels)

abbrev pub text_in : Option (List ℕ × List ℕ) → Option (List ℕ)
text_in (Some x) = Some x.0
text_in None = None

-- the text of the data item of at most 256 levels that begins the bytes
abbrev pub bytes_diagnosis : List ℕ → List ℕ → Option (List ℕ)
bytes_diagnosis margin bytes = text_in (item_text max_depth margin bytes [])

-- ---- what a call appends

-- The text that is wanted is there, and the bytes after it are returned; or `None`. Nothing is said if memory ran out.
abbrev pub Tells : {E : Type 0} → Read (List ℕ) → List ℕ → Result (Option (Bor (List ℕ))) E → Type 0
Tells wanted new (Ok (Some rest)) = wanted ≡ Some (new, rest.now)
Tells wanted new (Ok None) = wanted ≡ None
Tells wanted new (Err e) = Unit {0}
