-- Inputs as JSON values, from which they are read back, and the encoding of what such values are.
use Rattle.std.specs.Prelude.{◌≡◌, ◌⊎◌, ℕ, Bool, true, List, length, Option, None, Some, Ok, Err, is_ok, IsUtf8, string_bytes, ⊤}
use Rattle.json.specs.Json.{Json, document}
use Rattle.json.specs.declared.error.Error.{Error}
use Rattle.json.specs.declared.error.Error.TheVariants as error
use Rattle.passkey_attestation.specs.Formats.{format_name}
use Rattle.passkey_attestation.specs.Statement.{read_statement}
use Rattle.passkey_catalogue.specs.Catalogue.{definition}
use Rattle.passkey_catalogue.specs.JsonTexts.{any_json_rewritten}
use Rattle.passkey_catalogue.specs.Rewriting.{Encodes, IsRefusal}
use Rattle.passkey_catalogue.specs.declared.form.Form.{Form}
use Rattle.passkey_catalogue.specs.declared.form.Form.TheVariants as form
use Rattle.passkey_catalogue.specs.declared.json_values.ValuesFault.{ValuesFault}
use Rattle.passkey_catalogue.specs.declared.json_values.ValuesFault.TheVariants as fault
use Rattle.passkey_catalogue.specs.declared.kind.Kind.{Kind}
use Rattle.passkey_cbor.specs.Item.{Item, byte_string}
use Rattle.passkey_cbor.specs.LeadingItem.{IsLeadingItem}
use Rattle.passkey_cbor.specs.Writable.{IsWritable}
use Rattle.passkey_cbor.specs.Written.{written}
use Rattle.passkey_cbor_text.specs.declared.values.leaf.StringForm.TheVariants as string
use Rattle.passkey_cbor_text.specs.declared.values.no_item.ItemFault.{ItemFault}
use Rattle.passkey_cbor_text.specs.declared.values.no_item.ItemFault.TheVariants as item_fault
use Rattle.passkey_cbor_text.specs.declared.values.no_item.ItemReason.TheVariants as reason
use Rattle.passkey_cbor_text.specs.declared.values.no_item.NoItem.{NoItem}
use Rattle.passkey_cbor_text.specs.values.Exact.{IsJsonOf}
use Rattle.passkey_cbor_text.specs.values.JsonItem.{leaf_item}
use Rattle.passkey_cbor_text.specs.values.NoItem.{Read, here, no_item_of}
use Rattle.passkey_cbor_text.specs.values.NoItem as no_item
use Rattle.passkey_core.specs.DataParts.{DataParts}
use Rattle.passkey_core.specs.DataReading.{ReadsData}
use Rattle.passkey_cose.specs.KeyReading.{read_key}
use Rattle.passkey_explain_data.specs.DataLength.{IsDataLength}
use Rattle.passkey_json.specs.Fault.{Fault}
use Rattle.passkey_kinds.specs.Record.{read_item}
use Rattle.passkey_kinds.specs.RecordReading.{shape_of}
use Rattle.passkey_render.specs.DataParts.{data_item}
use Rattle.passkey_render.specs.KeyParts.{key_item}
use Rattle.passkey_render.specs.NoItemText.{no_item_text}
use Rattle.passkey_render.specs.Typed.{json_item}
use Rattle.passkey_rewrite.specs.Definition.{Definition, authenticator, item, message, other}
use Rattle.passkey_rewrite.specs.RewritesJson.{RewritesJson}
use Rattle.passkey_rewrite.specs.declared.fault.RunFault.{RunFault}
use Rattle.passkey_rewrite.specs.declared.fault.RunFault.TheVariants as run
use Rattle.passkey_tpm.specs.CertInfo.{cert_info_in}
use Rattle.passkey_tpm.specs.PubArea.{pub_area_in}
use Rattle.serde_json.specs.Data.{Data}
use Rattle.std.specs.Prelude.{Result}

-- ---- what JSON stands for

-- JSON values are data items, which stand for their encodings; or byte strings; or a JSON text stands for itself.
pub data Values : Type 0 where
  items : (Json → Read Item) → Values
  strings : (Json → Read Item) → Values
  texts : Values

abbrev pub form_values : Form → Values
form_values form.Key = items key_item
form_values (form.Statement f) = items (leaf_item string.Text)
form_values form.CertInfo = strings (leaf_item string.Bytes)
form_values form.PubArea = strings (leaf_item string.Bytes)
form_values (form.Json k) = texts

-- by a message's tables, by the parts of keys and of authenticator data, or with nothing known of it
abbrev pub values_of : Definition Form → Values
values_of item = items (leaf_item string.Text)
values_of authenticator = strings data_item
values_of (message t tree) = items (json_item (shape_of t))
values_of (other f) = form_values f

-- the JSON text is a data item, of which this is the encoding
pub record StandsForItem (means : Json → Read Item) (text input : List ℕ) : Type 0 where
  pub front : Item
  pub shown : IsJsonOf means front text
  pub writable : IsWritable front
  pub encoded : input ≡ written front

-- The input that the JSON text stands for.
abbrev pub StandsFor : Values → List ℕ → List ℕ → Type 0
StandsFor (items means) text input = StandsForItem means text input
StandsFor (strings means) text input = IsJsonOf means (byte_string input) text
StandsFor texts text input = input ≡ text

-- a byte string, where only one is wanted
abbrev pub only_string : Item → Read Item
only_string (byte_string s) = Ok (byte_string s)
only_string _ = Err (here reason.Bytes)

abbrev pub string_in : (Json → Read Item) → Json → Read Item
string_in means j = no_item.then_with only_string (means j)

-- ---- the values of an input

-- whether the data item is decoded so
abbrev pub is_accepted : Definition Form → Item → Bool
is_accepted (message t tree) i = is_ok (read_item t i)
is_accepted (other form.Key) i = is_ok (read_key i)
is_accepted (other (form.Statement f)) i = is_ok (read_statement (format_name f) i)
is_accepted _ i = true

-- The data item of this length that begins the bytes is decoded, and the text is JSON that is this item.
pub record ShowsItem (d : Definition Form) (means : Json → Read Item) (bytes text : List ℕ) (len : ℕ) : Type 0 where
  pub front : Item
  pub begins : IsLeadingItem bytes front len
  pub accepted : is_accepted d front ≡ true
  pub shown : IsJsonOf means front text

-- Authenticator data of this length begin the bytes, and the text is JSON of authenticator data with the same parts.
pub record ShowsData (bytes text : List ℕ) (len : ℕ) : Type 0 where
  pub parts : DataParts
  pub reads : ReadsData bytes (Ok parts)
  pub measured : IsDataLength bytes len
  pub same : List ℕ
  pub same_parts : ReadsData same (Ok parts)
  pub shown : IsJsonOf data_item (byte_string same) text

-- All of the bytes are the structure, and the text is JSON that is these bytes.
pub record ShowsStructure {P : Type 0} (read : List ℕ → Option P) (bytes text : List ℕ) (len : ℕ) : Type 0 where
  pub parts : P
  pub reads : read bytes ≡ Some parts
  pub whole : len ≡ length bytes
  pub shown : IsJsonOf (leaf_item string.Bytes) (byte_string bytes) text

-- The bytes are a JSON text, and so is this one, which is encoded as they are.
pub record ShowsJson (rewritten : Data → Result (List ℕ) Fault) (bytes text : List ℕ) (len : ℕ) : Type 0 where
  pub encoding : List ℕ
  pub encoded : RewritesJson rewritten bytes encoding
  pub encoded_alike : RewritesJson rewritten text encoding
  pub whole : len ≡ length bytes

abbrev pub ShowsForm : Form → List ℕ → List ℕ → ℕ → Type 0
ShowsForm form.Key = ShowsItem (other form.Key) key_item
ShowsForm (form.Statement f) = ShowsItem (other (form.Statement f)) (leaf_item string.Text)
ShowsForm form.CertInfo = ShowsStructure cert_info_in
ShowsForm form.PubArea = ShowsStructure pub_area_in
ShowsForm (form.Json k) = ShowsJson (any_json_rewritten k)

-- The text is JSON that is what the input is decoded from, of which so many bytes are decoded.
abbrev pub ShowsValues : Definition Form → List ℕ → List ℕ → ℕ → Type 0
ShowsValues item = ShowsItem item (leaf_item string.Text)
ShowsValues authenticator = ShowsData
ShowsValues (message t tree) = ShowsItem (message t tree) (json_item (shape_of t))
ShowsValues (other f) = ShowsForm f

-- ---- the input of values

-- the fault for a JSON value that is no data item
abbrev pub IsNoItem : Json → ItemFault → ValuesFault → Type 0
IsNoItem j (item_fault.NoItem e) (fault.NoItem given told) =
    (no_item_of given ≡ no_item_of e) × (string_bytes told ≡ no_item_text j (no_item_of e))
IsNoItem j e (fault.Run run.OutOfMemory) = ⊤
IsNoItem j e f = ⊥

-- the fault for a text that isn't read as JSON
abbrev pub json_fault : Error → RunFault
json_fault error.OutOfMemory = run.OutOfMemory
json_fault _ = run.BadJson

-- The text is JSON, and this in it is no data item, as this text says.
pub record HasNoItem (means : Json → Read Item) (text : List ℕ) (e : NoItem) (told : List ℕ) : Type 0 where
  pub value : Json
  pub parsed : document text ≡ Some value
  pub none : means value ≡ Err (no_item_of e)
  pub said : told ≡ no_item_text value (no_item_of e)

-- why a text is no JSON of a data item; memory may run out for any text
abbrev pub RefusesJson : (Json → Read Item) → List ℕ → ValuesFault → Type 0
RefusesJson means text (fault.NoItem e told) = HasNoItem means text e (string_bytes told)
RefusesJson means text (fault.Run run.BadJson) = IsUtf8 text → document text ≡ None
RefusesJson means text (fault.Run run.OutOfMemory) = ⊤
RefusesJson means text (fault.Run f) = ⊥

-- why the text stands for no input; memory may run out for any text
abbrev pub RefusesText : Values → List ℕ → ValuesFault → Type 0
RefusesText (items means) text f = RefusesJson means text f
RefusesText (strings means) text f = RefusesJson (string_in means) text f
RefusesText texts text f = f ≡ fault.Run run.OutOfMemory

-- ---- the encoding of values

-- The encoding of what the input is decoded to that the text stands for.
pub record EncodesValues (d : Definition Form) (text encoding : List ℕ) : Type 0 where
  pub input : List ℕ
  pub stands : StandsFor (values_of d) text input
  pub len : ℕ
  pub encodes : Encodes d input encoding len

-- The text stands for an input that is refused.
pub record RefusesInput (d : Definition Form) (text : List ℕ) (f : RunFault) : Type 0 where
  pub input : List ℕ
  pub stands : StandsFor (values_of d) text input
  pub refused : IsRefusal d input f

-- why there is no encoding: the text stands for no input, or the input is refused
abbrev pub RefusesEncoding : Definition Form → List ℕ → ValuesFault → Type 0
RefusesEncoding d text (fault.Run f) = RefusesText (values_of d) text (fault.Run f) ⊎ RefusesInput d text f
RefusesEncoding d text f = RefusesText (values_of d) text f

-- Values of an input are encoded as the input is.
abbrev pub ValuesAreEncodedAsTheInput : Type 0
ValuesAreEncodedAsTheInput = (k : Kind) (bytes text encoding : List ℕ) (len : ℕ)
    → ShowsValues (definition k) bytes text len → EncodesValues (definition k) text encoding
    → Encodes (definition k) bytes encoding len
