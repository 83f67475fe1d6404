-- What is printed of bytes.
use Rattle.std.specs.Prelude.{◌≡◌, ℕ, Bool, true, false, List, [], ◌∷◌, ◌++◌, if◌then◌else◌, Option, None, Some, ⊤, flat_map}
use Rattle.std.specs.Str.{chars}
use Rattle.hex.specs.Hex.{encode_lower}
use Rattle.passkey_cbor.specs.Item.{Item}
use Rattle.passkey_cbor.specs.LeadingItem.{IsLeadingItem}
use Rattle.passkey_cbor_text.specs.diagnose.Diagnosis.{diagnosis}
use Rattle.passkey_cbor_text.specs.diagnose.BytesText.{bytes_diagnosis}
use Rattle.passkey_cbor_text.specs.diagnose.Quoted.{visible_text}
use Rattle.passkey_explain.specs.Described.{Described}
use Rattle.passkey_render.specs.Json.{json_text}
use Rattle.passkey_inspect_input.specs.Input.{bytes_as, form_of}
use Rattle.passkey_inspect_input.specs.declared.Form.{Form}
use Rattle.passkey_inspect_input.specs.declared.Form.TheVariants.{Json}
use Rattle.passkey_catalogue.specs.JsonTexts.{any_json_rewritten}
use Rattle.passkey_rewrite.specs.RewritesJson.{RewritesJson}
use Rattle.passkey_inspect.specs.Frame.{body_in, kind_in}
use Rattle.passkey_inspect.specs.declared.options.Options.{Options}
use Rattle.passkey_inspect.specs.declared.options.Output.{Output}
use Rattle.passkey_inspect.specs.declared.options.Output.TheVariants.{Report, Json as JsonText, Diagnosis, Bytes as BytesText}
use Rattle.passkey_inspect.specs.declared.options.Output.TheVariants.{Encoding, FromValues, Values}
use Rattle.passkey_catalogue.specs.Catalogue.{definition, is_json, json_of}
use Rattle.passkey_catalogue.specs.Rewriting.{Encodes}
use Rattle.passkey_catalogue.specs.Values.{EncodesValues, ShowsValues}
use Rattle.passkey_catalogue.specs.declared.any_json_kind.AnyJsonKind.{AnyJsonKind}
use Rattle.passkey_catalogue.specs.declared.kind.Kind.{Kind}

-- The text is the encoding, in lower-case hexadecimal, of what so many of the bytes are decoded to.
pub record ShowsEncoding (kind : Kind) (bytes text : List ℕ) : Type 0 where
  pub encoding : List ℕ
  pub read : ℕ
  pub encodes : Encodes (definition kind) bytes encoding read
  pub shown : text ≡ encode_lower encoding

-- The text is the leading data item in diagnostic notation, an element or a member a line.
pub record ShowsItem (bytes text : List ℕ) : Type 0 where
  pub front : Item
  pub len : ℕ
  pub begins : IsLeadingItem bytes front len
  pub shown : text ≡ diagnosis front (10 ∷ [])

-- The text is the bytes of the leading data item in diagnostic notation, with encoding indicators, in such lines.
abbrev pub ShowsBytes : List ℕ → List ℕ → Type 0
ShowsBytes bytes text = Some text ≡ bytes_diagnosis (10 ∷ []) bytes

-- The text is a description as JSON.
pub record ShowsJson (text : List ℕ) : Type 0 where
  pub description : Described
  pub shown : text ≡ json_text description

-- The text with each character escaped that a terminal could take as a command.
abbrev pub visible : List ℕ → List ℕ
visible text = flat_map visible_text (chars text)

-- The line is the input as JSON, from which it is read back.
pub record PrintsValues (kind : Kind) (bytes line : List ℕ) : Type 0 where
  pub text : List ℕ
  pub len : ℕ
  pub values : ShowsValues (definition kind) bytes text len
  pub shown : line ≡ visible text ++ 10 ∷ []

-- What is printed of the bytes as the kind: exactly the encoding, or the item, or its bytes, in diagnostic notation, in
-- lines; or its JSON values; or the JSON text of some description. Nothing is said of reports and of dumps.
abbrev pub Prints : Output → Kind → List ℕ → List ℕ → Type 0
Prints Diagnosis kind bytes line = (text : List ℕ) × ShowsItem bytes text × (line ≡ text ++ 10 ∷ [])
Prints BytesText kind bytes line = (text : List ℕ) × ShowsBytes bytes text × (line ≡ text ++ 10 ∷ [])
Prints JsonText kind bytes line = (text : List ℕ) × ShowsJson text × (line ≡ text ++ 10 ∷ [])
Prints Encoding kind bytes line = (text : List ℕ) × ShowsEncoding kind bytes text × (line ≡ text ++ 10 ∷ [])
Prints Values kind bytes line = PrintsValues kind bytes line
Prints _ kind bytes line = ⊤

-- What is printed of the bytes as some kind.
abbrev pub PrintsAs : Output → List ℕ → List ℕ → Type 0
PrintsAs output bytes line = (kind : Kind) × Prints output kind bytes line

-- What is printed of a message: as the kind that is known, or as some kind.
abbrev pub PrintsKnown : Output → Option Kind → List ℕ → List ℕ → Type 0
PrintsKnown output (Some kind) = Prints output kind
PrintsKnown output None = PrintsAs output

-- What is printed of the bytes that an input spells: as the kind that was named; or of what follows a status code or a
-- command, as the kind of the command's parameters, or as some kind.
abbrev pub PrintsBytes : Output → Option Kind → List ℕ → List ℕ → Type 0
PrintsBytes output (Some kind) bytes = Prints output kind bytes
PrintsBytes output None bytes = PrintsKnown output (kind_in bytes) (body_in bytes)

-- The JSON text of the record that the input is decoded to as the kind, if it is one of JSON.
abbrev pub RewritesTextAs : Option AnyJsonKind → List ℕ → List ℕ → Type 0
RewritesTextAs (Some k) = RewritesJson (any_json_rewritten k)
RewritesTextAs None = λ input text. ⊥

abbrev pub RewritesText : Kind → List ℕ → List ℕ → Type 0
RewritesText k = RewritesTextAs (json_of k)

-- What is printed of a JSON text as the kind: as JSON the record that it is decoded to, in a line, or its values. Nothing is
-- said of reports, and the other options are for bytes.
abbrev pub PrintsRecordAs : Output → Kind → List ℕ → List ℕ → Type 0
PrintsRecordAs Report kind input line = ⊤
PrintsRecordAs JsonText kind input line =
    (text : List ℕ) × RewritesText kind input text × (line ≡ visible text ++ 10 ∷ [])
PrintsRecordAs Values kind input line = PrintsValues kind input line
PrintsRecordAs _ kind input line = ⊥

-- What is printed of a JSON text: as the kind that was named, or as some kind.
abbrev pub PrintsRecord : Output → Option Kind → List ℕ → List ℕ → Type 0
PrintsRecord output (Some kind) input line = PrintsRecordAs output kind input line
PrintsRecord output None input line = (kind : Kind) × PrintsRecordAs output kind input line

-- What is printed of an input that spells bytes in this form.
pub record PrintsSpelled (output : Output) (kind : Option Kind) (form : Form) (input line : List ℕ) : Type 0 where
  pub bytes : List ℕ
  pub spelled : bytes_as form input ≡ Some bytes
  pub prints : PrintsBytes output kind bytes line

-- What is printed of an input in this form.
abbrev pub PrintsInForm : Form → Output → Option Kind → List ℕ → List ℕ → Type 0
PrintsInForm Json output kind input line = PrintsRecord output kind input line
PrintsInForm form output kind input line = PrintsSpelled output kind form input line

-- The form that was named; or that of a kind of JSON; or the one that is found.
abbrev pub form_in : Option Form → Option Kind → List ℕ → Form
form_in (Some form) kind input = form
form_in None (Some kind) input = if is_json kind then Json else form_of input
form_in None None input = form_of input

-- The line is the encoding of what the JSON text stands for, as the kind that was named: of a kind of JSON texts as JSON, and
-- else in lower-case hexadecimal.
abbrev pub PrintsEncodedAs : Bool → Kind → List ℕ → List ℕ → Type 0
PrintsEncodedAs true kind input line = PrintsRecordAs JsonText kind input line
PrintsEncodedAs false kind input line =
    (encoding : List ℕ) × EncodesValues (definition kind) input encoding × (line ≡ encode_lower encoding ++ 10 ∷ [])

abbrev pub PrintsEncoded : Option Kind → List ℕ → List ℕ → Type 0
PrintsEncoded (Some kind) input line = PrintsEncodedAs (is_json kind) kind input line
PrintsEncoded None input line = ⊥

abbrev pub PrintsOutput : Output → Form → Option Kind → List ℕ → List ℕ → Type 0
PrintsOutput FromValues form kind = PrintsEncoded kind
PrintsOutput output form kind = PrintsInForm form output kind

-- What is printed of an input with these options.
abbrev pub PrintsInput : Options → List ℕ → List ℕ → Type 0
PrintsInput o input = PrintsOutput o.output (form_in o.form o.kind input) o.kind input
