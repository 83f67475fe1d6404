-- The output of decoding bytes as a kind and encoding the result, and why there is none.
use Rattle.std.specs.Prelude.{◌≡◌, ◌⊎◌, ℕ, List, length, Option, Some, None, Result, Ok, Err, ⊤}
use Rattle.passkey_attestation.specs.Formats.{format_name}
use Rattle.passkey_attestation.specs.Statement.{StatementParts, read_statement, statement_tree}
use Rattle.passkey_attestation.specs.declared.fault.StatementFault.{StatementFault}
use Rattle.passkey_attestation.specs.declared.fault.StatementFault.TheVariants.{Member, NotEmpty, NotCompound}
use Rattle.passkey_attestation.specs.declared.format.AttestationFormat.{AttestationFormat}
use Rattle.passkey_cbor.specs.Item.{Item}
use Rattle.passkey_cbor.specs.LeadingItem.{HasNoLeadingItem}
use Rattle.passkey_cbor.specs.Written.{written}
use Rattle.passkey_cose.specs.KeyParts.{KeyParts, key_item}
use Rattle.passkey_cose.specs.KeyReading.{read_key}
use Rattle.passkey_cose.specs.declared.error.CoseError.{CoseError}
use Rattle.passkey_cose.specs.declared.error.CoseError.TheVariants as error
use Rattle.passkey_kinds.specs.Message.{Begins}
use Rattle.passkey_catalogue.specs.JsonTexts.{any_json_rewritten}
use Rattle.passkey_catalogue.specs.declared.form.Form.{Form}
use Rattle.passkey_catalogue.specs.declared.form.Form.TheVariants as form
use Rattle.passkey_explain_data.specs.DataLength.{IsDataLength}
use Rattle.passkey_rewrite.specs.RewritesJson.{IsJsonRefusal, RewritesJson}
use Rattle.passkey_rewrite.specs.Definition.{Definition, authenticator, item, message, other}
use Rattle.passkey_rewrite.specs.Rewriting.{IsFrontLength, IsRefusalAs, RefusesLeadingItem, RewritesAs}
use Rattle.passkey_rewrite.specs.declared.fault.RunFault.{RunFault}
use Rattle.passkey_rewrite.specs.declared.fault.RunFault.TheVariants.{Refused, MessageRefused, OutOfMemory}
use Rattle.passkey_tpm.specs.CertInfo.{cert_info_in, cert_info_written}
use Rattle.passkey_tpm.specs.PubArea.{pub_area_in, pub_area_written}

-- ---- COSE keys

-- The encoding of the COSE key that begins the bytes.
pub record RewritesKey (bytes encoding : List ℕ) : Type 0 where
  pub parts : KeyParts
  pub begins : Begins bytes (λ i len. read_key i ≡ Ok parts)
  pub rewritten : encoding ≡ written (key_item parts)

-- the bytes have no leading data item, or it isn't a key, for this reason
abbrev pub RefusesKey : List ℕ → CoseError → Type 0
RefusesKey bytes error.OutOfMemory = ⊥
RefusesKey bytes refusal = RefusesLeadingItem bytes refusal ⊎ Begins bytes (λ i len. read_key i ≡ Err refusal)

-- why these bytes aren't decoded and encoded as a key; memory may run out for any bytes
abbrev pub IsKeyRefusal : List ℕ → RunFault → Type 0
IsKeyRefusal bytes (Refused refusal) = RefusesKey bytes refusal
IsKeyRefusal bytes OutOfMemory = ⊤
IsKeyRefusal bytes _ = ⊥

-- ---- attestation statements

-- The encoding of the attestation statement of this format that begins the bytes.
pub record RewritesStatement (f : AttestationFormat) (bytes encoding : List ℕ) : Type 0 where
  pub parts : StatementParts
  pub begins : Begins bytes (λ i len. read_statement (format_name f) i ≡ Ok parts)
  pub rewritten : encoding ≡ written (statement_tree parts)

-- The item that the attestation statement of this format, which this item is, is encoded as.
pub record IsStatementItem (f : AttestationFormat) (i encoded : Item) : Type 0 where
  pub parts : StatementParts
  pub reads : read_statement (format_name f) i ≡ Ok parts
  pub is : encoded ≡ statement_tree parts

-- why an item isn't decoded as a statement: the fault of its map, or `UnexpectedItem`
abbrev pub IsFaultOf : Result StatementParts StatementFault → RunFault → Type 0
IsFaultOf read (MessageRefused fault) = read ≡ Err (Member fault)
IsFaultOf read (Refused error.UnexpectedItem) = (read ≡ Err NotEmpty) ⊎ (read ≡ Err NotCompound)
IsFaultOf read OutOfMemory = ⊤
IsFaultOf read _ = ⊥

-- why these bytes aren't decoded and encoded as such a statement; memory may run out for any bytes
abbrev pub IsStatementRefusal : AttestationFormat → List ℕ → RunFault → Type 0
IsStatementRefusal f bytes OutOfMemory = ⊤
IsStatementRefusal f bytes (Refused error.DecodeFailed) = HasNoLeadingItem bytes
IsStatementRefusal f bytes fault = Begins bytes (λ i len. IsFaultOf (read_statement (format_name f) i) fault)

-- ---- structures of a TPM

-- The encoding of the structure that the bytes are, all of them.
pub record RewritesStructure {P : Type 0} (read : List ℕ → Option P) (encoded : P → List ℕ) (bytes encoding : List ℕ) :
    Type 0 where
  pub parts : P
  pub reads : read bytes ≡ Some parts
  pub rewritten : encoding ≡ encoded parts

-- why these bytes aren't decoded and encoded as the structure; memory may run out for any bytes
abbrev pub IsStructureRefusal : {P : Type 0} → (List ℕ → Option P) → List ℕ → RunFault → Type 0
IsStructureRefusal read bytes (Refused error.DecodeFailed) = read bytes ≡ None
IsStructureRefusal read bytes OutOfMemory = ⊤
IsStructureRefusal read bytes _ = ⊥

-- ---- all forms

-- what decoding an input of this form and encoding the result returns
abbrev pub EncodesForm : Form → List ℕ → List ℕ → Type 0
EncodesForm form.Key = RewritesKey
EncodesForm (form.Statement f) = RewritesStatement f
EncodesForm form.CertInfo = RewritesStructure cert_info_in cert_info_written
EncodesForm form.PubArea = RewritesStructure pub_area_in pub_area_written
EncodesForm (form.Json k) = RewritesJson (any_json_rewritten k)

-- why it isn't decoded and encoded; memory may run out for any input
abbrev pub RefusesForm : Form → List ℕ → RunFault → Type 0
RefusesForm form.Key = IsKeyRefusal
RefusesForm (form.Statement f) = IsStatementRefusal f
RefusesForm form.CertInfo = IsStructureRefusal cert_info_in
RefusesForm form.PubArea = IsStructureRefusal pub_area_in
RefusesForm (form.Json k) = IsJsonRefusal (any_json_rewritten k)

-- how much of it is decoded: the data item that begins the bytes, or all of the input
abbrev pub IsFormLength : Form → List ℕ → ℕ → Type 0
IsFormLength form.Key input n = IsFrontLength input n
IsFormLength (form.Statement f) input n = IsFrontLength input n
IsFormLength _ input n = n ≡ length input

abbrev pub IsReadLength : Definition Form → List ℕ → ℕ → Type 0
IsReadLength item = IsFrontLength
IsReadLength authenticator = IsDataLength
IsReadLength (message t tree) = IsFrontLength
IsReadLength (other f) = IsFormLength f

-- what decoding an input and encoding the result returns, and how much of the input is decoded
abbrev pub Encodes : Definition Form → List ℕ → List ℕ → ℕ → Type 0
Encodes d input encoding n = RewritesAs EncodesForm d input encoding × IsReadLength d input n

-- why the input isn't decoded and encoded; memory may run out for any input
abbrev pub IsRefusal : Definition Form → List ℕ → RunFault → Type 0
IsRefusal d = IsRefusalAs RefusesForm d
