-- What a call that writes JSON returns, and leaves in the caller's memory.
use Rattle.std.specs.Prelude.{◌≡◌, ℕ, List, true, is_ok, IsOk, Option, Some, None, Ok}
use Rattle.passkey_core.specs.DataParts.{DataParts}
use Rattle.passkey_core.specs.DataReading.{ReadsData}
use Rattle.passkey_cose.specs.KeyReading.{read_key}
use Rattle.passkey_explain.specs.DescribedData.{described_data, described_item, described_key}
use Rattle.passkey_explain.specs.Described.{described}
use Rattle.passkey_explain_data.specs.DataLength.{IsDataLength}
use Rattle.passkey_kinds.specs.Message.{Begins}
use Rattle.passkey_kinds.specs.Record.{Fields, read_item}
use Rattle.passkey_kinds.specs.RecordReading.{shape_of}
use Rattle.passkey_kinds.specs.declared.wanted.Wanted.TheVariants as wanted
use Rattle.passkey_malformed.specs.declared.demands.Demands.{Demands}
use Rattle.passkey_render.specs.Json.{json_text}
use Rattle.passkey_render.specs.Opened.{opened}
use Rattle.passkey_rewrite.specs.Definition.{Definition, authenticator, item, message, other}
use Rattle.passkey_rewrite.specs.Rewriting.{IsRefusalAs}
use Rattle.passkey_rewrite.specs.declared.fault.RunFault.{RunFault}
use Rattle.passkey_rewrite.specs.declared.fault.RunFault.TheVariants.{UnknownKind}
use Rattle.passkey_c.specs.Asked.{WritesAsked, is_item}
use Rattle.passkey_c.specs.Writing.{Outputs, IsUnknown}
use Rattle.passkey_catalogue.specs.Catalogue.{definition}
use Rattle.passkey_catalogue.specs.Rewriting.{EncodesForm, IsFormLength, IsKeyRefusal, RefusesForm}
use Rattle.passkey_catalogue.specs.declared.form.Form.{Form}
use Rattle.passkey_catalogue.specs.declared.form.Form.TheVariants as form
use Rattle.passkey_catalogue.specs.declared.kind.Kind.{Kind}

-- A message begins the bytes, and the text is the JSON of its data item, as the message's table describes it, with
-- authenticator data and keys opened.
abbrev pub IsMessageJson : {P : Type 0} → Fields P → List ℕ → List ℕ → ℕ → Type 0
IsMessageJson t bytes text read = Begins bytes (λ i len. (read ≡ len) × (is_ok (read_item t i) ≡ true)
    × (text ≡ json_text (opened (described (shape_of t) i))))

-- A data item begins the bytes, and the text is its JSON, as nothing is known of it.
abbrev pub IsItemJson : List ℕ → List ℕ → ℕ → Type 0
IsItemJson bytes text read =
    Begins bytes (λ i len. (read ≡ len) × (text ≡ json_text (described_item wanted.Any i)))

-- Authenticator data begin the bytes, and the text is the JSON of their parts.
pub record IsDataJson (bytes text : List ℕ) (read : ℕ) : Type 0 where
  pub parts : DataParts
  pub reads : ReadsData bytes (Ok parts)
  pub shown : text ≡ json_text (described_data parts)
  pub size : IsDataLength bytes read

-- A COSE key begins the bytes, and the text is the JSON of its parameters.
abbrev pub IsKeyJson : List ℕ → List ℕ → ℕ → Type 0
IsKeyJson bytes text read = Begins bytes (λ i len. (read ≡ len) × IsOk (read_key i)
    × (text ≡ json_text (described_key i)))

-- ---- by what the input is

-- the JSON of an input of this form, and how many of its bytes it is made from
abbrev pub IsFormJson : Form → List ℕ → List ℕ → ℕ → Type 0
IsFormJson form.Key input text n = IsKeyJson input text n
IsFormJson (form.Json k) input text n = EncodesForm (form.Json k) input text × IsFormLength (form.Json k) input n
IsFormJson _ input text n = ⊥

-- Why there is none. Attestation statements and the structures of a TPM have no JSON.
abbrev pub HasNoFormJson : Form → List ℕ → RunFault → Type 0
HasNoFormJson form.Key input fault = IsKeyRefusal input fault
HasNoFormJson (form.Json k) input fault = RefusesForm (form.Json k) input fault
HasNoFormJson _ input fault = fault ≡ UnknownKind

abbrev pub IsJson : Definition Form → List ℕ → List ℕ → ℕ → Type 0
IsJson item = IsItemJson
IsJson authenticator = IsDataJson
IsJson (message t tree) = IsMessageJson t
IsJson (other f) = IsFormJson f

abbrev pub HasNoJson : Definition Form → List ℕ → RunFault → Type 0
HasNoJson d = IsRefusalAs HasNoFormJson d

abbrev pub ShowsJson : Option Kind → Option Demands → List ℕ → Outputs → Outputs → ℕ → Type 0
ShowsJson (Some kind) demands input old new status =
    let d = definition kind in
    WritesAsked (IsJson d input) (HasNoJson d input) demands (is_item d) input old new status
ShowsJson None demands input old new status = IsUnknown old new status
