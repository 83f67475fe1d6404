-- The data item that a JSON value is where no table divides it.
use Rattle.std.specs.Prelude.{◌≡◌, ℕ, ℤ, suc, if◌then◌else◌, List, [], ◌∷◌, ◌++◌, Option, Some, None, option_map, Ok, Err, codes}
use Rattle.std.specs.Option.{option_and_then, option_or}
use Rattle.std.specs.Str.{bytes_eq}
use Rattle.json.specs.Find.{as_str}
use Rattle.json.specs.Json.{Json}
use Rattle.json.specs.Json as json
use Rattle.passkey_bytes.specs.Encoding.{base64url_bytes}
use Rattle.passkey_cbor.specs.Canonical.{Ascend}
use Rattle.passkey_cbor.specs.Item.{Item, elements, items_of, pairs_of}
use Rattle.passkey_cbor.specs.Item as item
use Rattle.passkey_cbor_text.specs.declared.values.escape.Escape.{Escape}
use Rattle.passkey_cbor_text.specs.declared.values.escape.Escape.TheVariants as escape
use Rattle.passkey_cbor_text.specs.declared.values.leaf.StringForm.{StringForm}
use Rattle.passkey_cbor_text.specs.declared.values.leaf.StringForm.TheVariants as form
use Rattle.passkey_cbor_text.specs.declared.values.no_item.ItemReason.TheVariants as reason
use Rattle.passkey_cbor_text.specs.values.Keys.{any_key, encoding_item, number_item}
use Rattle.passkey_cbor_text.specs.values.NoItem.{Read, at, here, or_reason, read_map, then_with}
use Rattle.passkey_cbor_text.specs.values.Ordered.{Member, with_member}
use Rattle.passkey_cbor_text.specs.values.Registries.{algorithm_named, curves, key_types, named_in}
use Rattle.passkey_iana.specs.Iana.{algorithm_number}
use Rattle.uuid.specs.Text.{parsed}

-- ---- strings

abbrev pub bytes_item : Option (List ℕ) → Read Item
bytes_item bytes = or_reason reason.Bytes (option_map item.byte_string bytes)

-- the number that a name stands for, and else the text
abbrev pub number_or_text : Option ℤ → List ℕ → Item
number_or_text (Some z) text = item.number z
number_or_text None text = item.text_string text

abbrev pub algorithm_or_text : List ℕ → Item
algorithm_or_text text = number_or_text (option_map algorithm_number (algorithm_named text)) text

-- a text; bytes in base64url (RFC 4648, section 5); those of an AAGUID also as a UUID (RFC 9562, section 4); or a name in a
-- registry
abbrev pub string_item : StringForm → List ℕ → Read Item
string_item form.Text text = Ok (item.text_string text)
string_item form.Bytes text = bytes_item (base64url_bytes text)
string_item form.Aaguid text = bytes_item (option_or (parsed text) (base64url_bytes text))
string_item form.Algorithm text = Ok (algorithm_or_text text)
string_item form.KeyType text = Ok (number_or_text (named_in text key_types) text)
string_item form.Curve text = Ok (number_or_text (named_in text curves) text)

-- ---- escapes: objects with one member, by its name

abbrev pub escape_named : List ℕ → Option Escape
escape_named name =
    if bytes_eq name (codes "$bytes") then Some escape.Bytes
    else if bytes_eq name (codes "$text") then Some escape.Text
    else if bytes_eq name (codes "$int") then Some escape.Integer
    else if bytes_eq name (codes "$map") then Some escape.Map
    else if bytes_eq name (codes "$cbor") then Some escape.Cbor
    else None

-- what a text is in this escape
abbrev pub escape_text : Escape → List ℕ → Read Item
escape_text escape.Bytes text = bytes_item (base64url_bytes text)
escape_text escape.Text text = Ok (item.text_string text)
escape_text escape.Integer text = number_item text
escape_text escape.Map text = Err (here reason.Pairs)
escape_text escape.Cbor text = encoding_item text

abbrev pub escape_string : Escape → Option (List ℕ) → Read Item
escape_string e (Some text) = escape_text e text
escape_string e None = Err (here reason.String)

abbrev pub pair_in : Item → Option Member
pair_in (item.array (item.item key (item.item value item.no_items))) = Some (key, value)
pair_in _ = None

-- the members before, and those that these arrays of two are
abbrev pub pairs_from : List Member → List Item → Option (List Member)
pairs_from before [] = Some before
pairs_from before (i ∷ is) = option_and_then (λ m. pairs_from (before ++ m ∷ []) is) (pair_in i)

-- the map whose members are the elements of an array, which are arrays of two
abbrev pub map_in : Item → Option Item
map_in (item.array pairs) = option_map (λ ms. item.map (pairs_of ms)) (pairs_from [] (elements pairs))
map_in _ = None

-- the data item of an escape: of its text, or of the array that its value is
abbrev pub escape_item : Escape → Option (List ℕ) → Read Item → Read Item
escape_item escape.Map text inner = then_with (λ i. or_reason reason.Pairs (map_in i)) inner
escape_item e text inner = escape_string e text

abbrev pub if_alone : {A : Type 0} → json.Members → Option A → Option A
if_alone json.no_members o = o
if_alone (json.member k j ms) o = None

-- the escape that an object is, if it is one
abbrev pub escape_in : json.Members → Option Escape
escape_in json.no_members = None
escape_in (json.member k j ms) = if_alone ms (escape_named k)

abbrev pub by_escape : {A : Type 0} → Option Escape → (Escape → A) → A → A
by_escape (Some e) of other = of e
by_escape None of other = other

-- ---- all values

abbrev pub member_of : Read Item → Read Item → Read Member
member_of (Err e) value = Err e
member_of (Ok key) value = read_map (λ v. (let m : Member = (key, v) in m)) value

-- the members with another one
abbrev pub placed : List Member → Read Member → Read (List Member)
placed ms (Err e) = Err e
placed ms (Ok m) = or_reason reason.Repeated (with_member ms m)

abbrev pub array_of : List Item → Item
array_of xs = item.array (items_of xs)

abbrev pub map_of : List Member → Item
map_of ms = item.map (pairs_of ms)

-- Arrays and objects of such values. The members of an object are put in CTAP2's order.
abbrev mutual
  pub leaf_item : StringForm → Json → Read Item
  leaf_item f json.null = Ok item.null
  leaf_item f (json.boolean b) = Ok (item.boolean b)
  leaf_item f (json.number text) = number_item text
  leaf_item f (json.string text) = string_item f text
  leaf_item f (json.array js) = read_map array_of (elements_item [] 0 js)
  leaf_item f (json.object ms) =
      by_escape (escape_in ms) (λ e. first_item e ms) (read_map map_of (members_item [] 0 ms))

  -- the elements before, and these, of which the first has this index
  pub elements_item : List Item → ℕ → json.Items → Read (List Item)
  elements_item before n json.no_items = Ok before
  elements_item before n (json.item j js) =
      then_with (λ i. elements_item (before ++ i ∷ []) (suc n) js) (at n (leaf_item form.Text j))

  pub members_item : List Member → ℕ → json.Members → Read (List Member)
  members_item before n json.no_members = Ok before
  members_item before n (json.member k j ms) = then_with (λ all. members_item all (suc n) ms)
      (at n (placed before (member_of (any_key k) (leaf_item form.Text j))))

  -- the data item of this escape, by its first member
  pub first_item : Escape → json.Members → Read Item
  first_item e json.no_members = Err (here reason.String)
  first_item e (json.member k j ms) = at 0 (escape_item e (as_str j) (leaf_item form.Text j))

-- the data item of an object
abbrev pub object_item : json.Members → Read Item
object_item ms = by_escape (escape_in ms) (λ e. first_item e ms) (read_map map_of (members_item [] 0 ms))

-- The members of an object that is no escape are in CTAP2's order, so none has the key of another one.
abbrev pub MembersAscend : Type 0
MembersAscend = (ms : json.Members) (all : List Member) → members_item [] 0 ms ≡ Ok all → Ascend (pairs_of all)
