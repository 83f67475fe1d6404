-- The data item that a JSON value is, by the shape of the type that is wanted of it.
use Rattle.std.specs.Prelude.{◌≡◌, ℕ, pos, ◌==◌, Bool, true, if◌then◌else◌, List, [], ◌∷◌, ◌++◌, map, Some, Ok}
use Rattle.std.proofs.Common.{refl}
use Rattle.json.specs.Json.{Json}
use Rattle.json.specs.Json as json
use Rattle.passkey_bytes.specs.Encoding.{base64url_bytes}
use Rattle.passkey_cbor.specs.Item.{Item, number, text_string}
use Rattle.passkey_cbor_text.specs.declared.values.leaf.StringForm.{StringForm}
use Rattle.passkey_cbor_text.specs.declared.values.leaf.StringForm.TheVariants as string
use Rattle.passkey_cbor_text.specs.values.Exact.{ReadsEscapes, leaf_reads_escapes}
use Rattle.passkey_cbor_text.specs.values.JsonItem.{array_of, bytes_item, leaf_item, map_of, member_of}
use Rattle.passkey_cbor_text.specs.values.Keys.{key_item}
use Rattle.passkey_cbor_text.specs.values.NoItem.{Read, read_map, then_with}
use Rattle.passkey_cbor_text.specs.values.Ordered.{Member}
use Rattle.passkey_kinds.specs.Look.{HasForm}
use Rattle.passkey_kinds.specs.Record.{Naming, row, names}
use Rattle.passkey_kinds.specs.RecordReading.{entry_of}
use Rattle.passkey_kinds.specs.Shape.{Entry, Shape, Rows, Tested, no_rows, record_of, entries_in, reached}
use Rattle.passkey_kinds.specs.Shape as shape
use Rattle.passkey_kinds.specs.declared.look.Form.TheVariants as form
use Rattle.passkey_kinds.specs.declared.wanted.Wanted.{Wanted}
use Rattle.passkey_kinds.specs.declared.wanted.Wanted.TheVariants as wanted
use Rattle.passkey_render.specs.DataParts.{data_item, data_reads_escapes}
use Rattle.passkey_render.specs.Parts.{Named, elements_of, members_of, of_parts, read_each}
use Rattle.passkey_render.specs.declared.typed.Keys.{Keys as CodeKeys}
use Rattle.passkey_render.specs.declared.typed.Keys.TheVariants as code

-- what a string is: bytes where bytes are wanted, and an AAGUID where 16 bytes are (WebAuthn Level 3, section 6.5.1)
abbrev pub string_form : Wanted → StringForm
string_form wanted.Bytes = string.Bytes
string_form (wanted.SizedBytes n) = string.Bytes
string_form wanted.AuthenticatorData = string.Bytes
string_form (wanted.ByteString n) = if n == 16 then string.Aaguid else string.Bytes
string_form wanted.Algorithm = string.Algorithm
string_form _ = string.Text

-- authenticator data also by their parts
abbrev pub wanted_item : Wanted → Json → Read Item
wanted_item wanted.AuthenticatorData j = data_item j
wanted_item w j = leaf_item (string_form w) j

-- ---- arrays

abbrev pub list_item : (Json → Read Item) → Json → Read Item
list_item of j =
    of_parts (elements_of j) (λ js. read_map array_of (read_each (λ _. of) [] 0 js)) (leaf_item string.Text j)

-- ---- maps and records

-- The keys that a map may have: byte strings; or those of a record, whose members have numbers or not.
pub data Keys : Type 0 where
  byte_strings : Keys
  rows : Bool → List Entry → Keys

abbrev pub keys_of : CodeKeys → Keys
keys_of code.ByteStrings = byte_strings
keys_of (code.Rows is_numbered rs) = rows is_numbered (map entry_of rs.now)

-- a row's number, if members have numbers, and else the name
abbrev pub named_key : Bool → Naming → List ℕ → Item
named_key true (row n) name = number (pos n)
named_key _ _ name = text_string name

abbrev pub plain_key : Keys → List ℕ → Read Item
plain_key byte_strings name = bytes_item (base64url_bytes name)
plain_key (rows is_numbered es) name = Ok (named_key is_numbered (names is_numbered es (text_string name)) name)

-- the row that the key names; the values of a map whose keys are byte strings are all of one type, as in row 0
abbrev pub named_by : Keys → Item → Naming
named_by byte_strings key = row 0
named_by (rows is_numbered es) key = names is_numbered es key

-- the value of a member, by what its key names
abbrev pub value_item : (ℕ → Json → Read Item) → Naming → Json → Read Item
value_item of (row n) j = of n j
value_item of _ j = leaf_item string.Text j

abbrev pub member_item : Keys → (ℕ → Json → Read Item) → Named → Read Member
member_item ks of m =
    then_with (λ key. member_of (Ok key) (value_item of (named_by ks key) m.1)) (key_item (plain_key ks) m.0)

abbrev pub table_item : Keys → (ℕ → Json → Read Item) → Json → Read Item
table_item ks of j = of_parts (members_of j) (λ ms. read_map map_of (read_each (λ _. member_item ks of) [] 0 ms))
    (leaf_item string.Text j)

-- ---- by the shape

abbrev mutual
  pub json_item : Shape → Json → Read Item
  json_item (shape.leaf w) j = wanted_item w j
  json_item (shape.list accepts s) j = list_item (json_item s) j
  json_item (shape.map accepts s) j = table_item byte_strings (λ n. json_item s) j
  json_item (record_of is_numbered rs) j = table_item (rows is_numbered (entries_in rs)) (row_item rs) j
  json_item (shape.tolerant accepts s) j = json_item s j

  pub row_item : Rows → ℕ → Json → Read Item
  row_item no_rows n j = leaf_item string.Text j
  row_item (shape.row e accepts s rs) n j = if e.number == n then json_item s j else row_item rs n j

-- ---- for the code

-- the code's keys are those of the shape
abbrev pub HasKeys : Shape → CodeKeys → Type 0
HasKeys s code.ByteStrings = HasForm s form.Map
HasKeys s (code.Rows is_numbered rs) = HasForm s (form.Record is_numbered rs)

-- The type of the values that row n leads to, and that its values are read by.
pub record IsRowAt (way : List ℕ) (root : Tested) (of : Json → Read Item) : Type 0 where
  pub type_there : Tested
  pub reaches : reached way root ≡ Some type_there
  pub same : (j : Json) → of j ≡ json_item type_there.shape j

-- The way leads to a map or a record with these keys, whose values are read so.
pub record IsTableAt (way : List ℕ) (root : Tested) (ks : Keys) (of : ℕ → Json → Read Item) : Type 0 where
  pub value_at : (label : Item) (n : ℕ) → named_by ks label ≡ row n → IsRowAt (way ++ n ∷ []) root (of n)

-- ---- an escape is the data item wherever it stands

wanted_reads_escapes : (w : Wanted) → ReadsEscapes (wanted_item w)
wanted_reads_escapes wanted.AuthenticatorData = data_reads_escapes
wanted_reads_escapes w = leaf_reads_escapes (string_form w)

pub type_reads_escapes : (s : Shape) → ReadsEscapes (json_item s)
type_reads_escapes (shape.leaf w) digits i e = wanted_reads_escapes w digits i e
type_reads_escapes (shape.list a x) digits i e = rw e refl
type_reads_escapes (shape.map a x) digits i e = rw e refl
type_reads_escapes (record_of b rs) digits i e = rw e refl
type_reads_escapes (shape.tolerant a x) digits i e = type_reads_escapes x digits i e
