-- What a call that explains why an input is refused returns, and leaves in the caller's memory.
use Rattle.std.specs.Prelude.{◌≡◌, ◌-◌, ◌+◌, ◌++◌, ◌⊎◌, ℕ, List, length, take, drop, Bool, true, false, if◌then◌else◌, Option, Some, None, Result, Ok, Err, codes, string_bytes}
use Rattle.passkey_attestation.specs.declared.fault.StatementFault.{StatementFault}
use Rattle.passkey_attestation.specs.declared.fault.StatementFault.TheVariants.{Member}
use Rattle.passkey_attestation.specs.declared.format.AttestationFormat.{AttestationFormat}
use Rattle.passkey_cbor.specs.Item.{Item}
use Rattle.passkey_cbor.specs.LeadingItem.{HasNoLeadingItem, IsLeadingItem}
use Rattle.passkey_explain.specs.Along.{LiesAlong}
use Rattle.passkey_explain.specs.Explains.{Explains}
use Rattle.passkey_explain.specs.Texts.{explanation_text, extent_text}
use Rattle.passkey_explain.specs.declared.explanation.Explanation.{Explanation}
use Rattle.passkey_explain.specs.declared.explanation.Explanation.TheVariants.{NotWellFormed, Refused}
use Rattle.passkey_explain_data.specs.DataBlame.{ExplainsData}
use Rattle.passkey_explain_data.specs.DataLength.{IsDataLength}
use Rattle.passkey_explain_data.specs.KeyBlame.{key_blame, key_path}
use Rattle.passkey_explain_data.specs.StatementBlame.{ExplainsStatement}
use Rattle.passkey_explain_data.specs.Texts.{data_refusal_text, key_refusal_text, statement_explanation_text}
use Rattle.passkey_explain_data.specs.declared.statement.StatementExplanation.{StatementExplanation}
use Rattle.passkey_explain_data.specs.declared.statement.StatementExplanation.TheVariants as statement
use Rattle.passkey_explain_data.specs.declared.key.KeyRefusal.{KeyRefusal}
use Rattle.passkey_explain_data.specs.declared.part.DataPart.{DataPart}
use Rattle.passkey_explain_data.specs.declared.part.DataPart.TheVariants.{Trailing}
use Rattle.passkey_explain_data.specs.declared.part.DataReason.{DataReason}
use Rattle.passkey_explain_data.specs.declared.part.DataReason.TheVariants as reason
use Rattle.passkey_explain_data.specs.declared.part.DataRefusal.{DataRefusal}
use Rattle.passkey_cose.specs.declared.error.CoseError.TheVariants as error
use Rattle.passkey_kinds.specs.Message.{Begins}
use Rattle.passkey_kinds.specs.Record.{Fields}
use Rattle.passkey_kinds.specs.declared.fault.Fault.{Fault}
use Rattle.passkey_kinds.specs.declared.fault.Fault.TheVariants.{DecodeFailed}
use Rattle.passkey_malformed.specs.Rules.{not_canonical_text}
use Rattle.passkey_malformed.specs.Stops.{IsMalformed}
use Rattle.passkey_malformed.specs.Why.{malformed_text}
use Rattle.passkey_malformed.specs.declared.demands.Demands.{Demands}
use Rattle.passkey_malformed.specs.declared.rule.NotCanonical.{NotCanonical}
use Rattle.passkey_malformed.specs.declared.rule.Rule.{Rule}
use Rattle.passkey_malformed.specs.declared.rule.Rule.TheVariants as rule
use Rattle.passkey_malformed.specs.declared.why.Malformed.{Malformed}
use Rattle.passkey_catalogue.specs.Catalogue.{definition}
use Rattle.passkey_catalogue.specs.declared.form.Form.{Form}
use Rattle.passkey_catalogue.specs.declared.form.Form.TheVariants as form
use Rattle.passkey_catalogue.specs.declared.kind.Kind.{Kind}
use Rattle.passkey_rewrite.specs.Definition.{Definition, authenticator, item, message, other}
use Rattle.passkey_rewrite.specs.Rewriting.{IsFrontLength}
use Rattle.passkey_tpm.specs.CertInfo.{cert_info_refusal}
use Rattle.passkey_tpm.specs.PubArea.{pub_area_refusal}
use Rattle.passkey_tpm.specs.Texts.{refusal_text}
use Rattle.passkey_tpm.specs.declared.refusal.TpmRefusal.{TpmRefusal}
use Rattle.passkey_c.specs.Asked.{IsUnmetIn, MeetsAsked, is_item}
use Rattle.passkey_c.specs.ExplainingJson.{AcceptsJson, TellsJson}
use Rattle.passkey_c.specs.Statuses.{data_status, denial_status, message_status, statement_status}
use Rattle.passkey_c.specs.declared.status.Denial.TheVariants as denial
use Rattle.passkey_c.specs.declared.verdict.Refusal.{Refusal}
use Rattle.passkey_c.specs.declared.verdict.Verdict.{Verdict}
use Rattle.passkey_c.specs.declared.verdict.Verdict.TheVariants as verdict

-- what the caller's memory holds
pub record Memory : Type 0 where
  pub read : ℕ
  pub refusal : Refusal
  pub text : List ℕ
  pub len : ℕ

-- The fact holds of the status, of the bytes that are refused and of a text about them; the output begins with the text, or as
-- much of it as there is room for, and the length is that of the whole text.
pub record IsTold (Tells : ℕ → Refusal → List ℕ → Type 0) (old new : Memory) (status : ℕ) : Type 0 where
  pub text : List ℕ
  pub tells : Tells status new.refusal text
  pub output : new.text ≡ take (length old.text) text ++ drop (length text) old.text
  pub size : new.len ≡ length text
  pub same : new.read ≡ old.read

-- Nothing is written where there is no such kind.
abbrev pub IsUnknown : Memory → Memory → ℕ → Type 0
IsUnknown old new status = (status ≡ 3) × (new ≡ old)

-- Status 0 if so many bytes are accepted; 2 if memory ran out; or the fault's status.
pub data Explaining (Accepts : ℕ → Type 0) (Tells : ℕ → Refusal → List ℕ → Type 0) (old new : Memory) (status : ℕ)
    : Type 0 where
  accepted : status ≡ 0 → (n : ℕ) → Accepts n → new ≡ record old { read = n }
      → Explaining Accepts Tells old new status
  exhausted : status ≡ 2 → new ≡ old → Explaining Accepts Tells old new status
  told : IsTold Tells old new status → Explaining Accepts Tells old new status

abbrev pub IsVerdict : (ℕ → Type 0) → (ℕ → Refusal → List ℕ → Type 0) → Verdict → Type 0
IsVerdict Accepts Tells (verdict.Accepted n) = Accepts n
IsVerdict Accepts Tells (verdict.Refused r) = Tells r.status r.refusal (string_bytes r.text)

-- what is written of a verdict
abbrev pub TellsResult : {E : Type 0} → Result Verdict E → Memory → Memory → ℕ → Type 0
TellsResult (Ok (verdict.Accepted n)) old new status = (status ≡ 0) × (new ≡ record old { read = n })
TellsResult (Ok (verdict.Refused r)) old new status =
    IsTold (λ s b text. (s ≡ r.status) × (b ≡ r.refusal) × (text ≡ string_bytes r.text)) old new status
TellsResult (Err e) old new status = (status ≡ 2) × (new ≡ old)

-- ---- data items

-- of so many bytes, those from where they aren't well-formed
abbrev pub refused_from : ℕ → Malformed → Refusal
refused_from n m = record { offset = m.offset; len = n - m.offset }

-- No data item begins the bytes, and this is why and where.
pub record TellsItem (input : List ℕ) (status : ℕ) (refusal : Refusal) (text : List ℕ) : Type 0 where
  pub stop : Malformed
  pub stops : IsMalformed input stop
  pub fault : status ≡ message_status DecodeFailed
  pub bytes : refusal ≡ refused_from (length input) stop
  pub says : text ≡ malformed_text stop

-- ---- COSE keys

abbrev pub AcceptsKey : List ℕ → ℕ → Type 0
AcceptsKey input n = Begins input (λ i len. (n ≡ len) × (key_blame i ≡ None))

-- why an item isn't a key, and where it is
abbrev pub key_text : KeyRefusal → Refusal → List ℕ
key_text k r = key_refusal_text k ++ codes " " ++ extent_text (record { offset = r.offset; len = r.len })

-- The data item that begins the bytes isn't a key, and this is what in it is to blame, and where it is encoded.
pub record TellsKey (input : List ℕ) (status : ℕ) (refusal : Refusal) (text : List ℕ) : Type 0 where
  pub item : Item
  pub len : ℕ
  pub leads : IsLeadingItem input item len
  pub refused : KeyRefusal
  pub blamed : key_blame item ≡ Some refused
  pub fault : status ≡ data_status refused.fault
  pub lies : LiesAlong (key_path refused.blame) item input 0 refusal.offset (refusal.offset + refusal.len)
  pub says : text ≡ key_text refused refusal

abbrev pub TellsNoKey : List ℕ → ℕ → Refusal → List ℕ → Type 0
TellsNoKey input status refusal text = TellsItem input status refusal text ⊎ TellsKey input status refusal text

-- ---- messages

abbrev pub fault_of : Explanation → Fault
fault_of (NotWellFormed m) = DecodeFailed
fault_of (Refused e) = e.fault

-- which of so many bytes are refused
abbrev pub refusal_of : ℕ → Explanation → Refusal
refusal_of n (NotWellFormed m) = refused_from n m
refusal_of n (Refused e) = record { offset = e.extent.offset; len = e.extent.len }

abbrev pub AcceptsMessage : {P : Type 0} → Fields P → List ℕ → ℕ → Type 0
AcceptsMessage t input n = Explains t input None × IsFrontLength input n

-- The message at the beginning is refused as this explanation says.
pub record TellsMessage {P : Type 0} (t : Fields P) (input : List ℕ) (status : ℕ) (refusal : Refusal) (text : List ℕ)
    : Type 0 where
  pub explanation : Explanation
  pub explains : Explains t input (Some explanation)
  pub fault : status ≡ message_status (fault_of explanation)
  pub bytes : refusal ≡ refusal_of (length input) explanation
  pub says : text ≡ explanation_text explanation

-- ---- authenticator data

abbrev pub is_trailing : DataPart → Bool
is_trailing Trailing = true
is_trailing _ = false

-- what is refused where bytes may follow
abbrev pub refused_in_front : Option DataRefusal → Option DataRefusal
refused_in_front (Some r) = if is_trailing r.part then None else Some r
refused_in_front None = None

-- of so many bytes, those of a part, or of what in it is refused for this reason
abbrev pub bytes_in : ℕ → DataReason → Refusal → Refusal
bytes_in n (reason.NotWellFormed m) part = refused_from n m
bytes_in n (reason.Key k e) part = record { offset = e.offset; len = e.len }
bytes_in n _ part = part

abbrev pub refusal_in : ℕ → DataRefusal → Refusal
refusal_in n r = bytes_in n r.reason (record { offset = r.extent.offset; len = r.extent.len })

-- Authenticator data begin the bytes, and take so many of them.
pub record AcceptsData (input : List ℕ) (n : ℕ) : Type 0 where
  pub found : Option DataRefusal
  pub explains : ExplainsData input found
  pub nothing : refused_in_front found ≡ None
  pub size : IsDataLength input n

-- They don't, and this is refused.
pub record TellsData (input : List ℕ) (status : ℕ) (refusal : Refusal) (text : List ℕ) : Type 0 where
  pub found : Option DataRefusal
  pub explains : ExplainsData input found
  pub refused : DataRefusal
  pub is : refused_in_front found ≡ Some refused
  pub fault : status ≡ data_status refused.fault
  pub bytes : refusal ≡ refusal_in (length input) refused
  pub says : text ≡ data_refusal_text refused

-- ---- attestation statements

abbrev pub statement_fault_of : StatementExplanation → StatementFault
statement_fault_of (statement.NotWellFormed m) = Member DecodeFailed
statement_fault_of (statement.Refused r) = r.fault

-- which of so many bytes are refused
abbrev pub statement_refusal_of : ℕ → StatementExplanation → Refusal
statement_refusal_of n (statement.NotWellFormed m) = refused_from n m
statement_refusal_of n (statement.Refused r) = record { offset = r.extent.offset; len = r.extent.len }

abbrev pub AcceptsStatement : AttestationFormat → List ℕ → ℕ → Type 0
AcceptsStatement f input n = ExplainsStatement f input None × IsFrontLength input n

-- The statement of this format at the beginning is refused as this explanation says.
pub record TellsStatement (f : AttestationFormat) (input : List ℕ) (status : ℕ) (refusal : Refusal) (text : List ℕ)
    : Type 0 where
  pub explanation : StatementExplanation
  pub explains : ExplainsStatement f input (Some explanation)
  pub fault : status ≡ statement_status (statement_fault_of explanation)
  pub bytes : refusal ≡ statement_refusal_of (length input) explanation
  pub says : text ≡ statement_explanation_text explanation

-- ---- structures of a TPM

abbrev pub structure_refusal : TpmRefusal → Refusal
structure_refusal r = record { offset = r.offset; len = r.len }

-- nothing of so many bytes is refused
abbrev pub AcceptsStructure : Option TpmRefusal → ℕ → ℕ → Type 0
AcceptsStructure found len n = (found ≡ None) × (n ≡ len)

-- this field is refused
pub record TellsStructure (found : Option TpmRefusal) (status : ℕ) (refusal : Refusal) (text : List ℕ) : Type 0 where
  pub refused : TpmRefusal
  pub is : found ≡ Some refused
  pub fault : status ≡ data_status error.DecodeFailed
  pub bytes : refusal ≡ structure_refusal refused
  pub says : text ≡ refusal_text refused

-- ---- by what the input is

-- so many bytes are accepted
abbrev pub AcceptsForm : Form → List ℕ → ℕ → Type 0
AcceptsForm form.Key = AcceptsKey
AcceptsForm (form.Statement f) = AcceptsStatement f
AcceptsForm form.CertInfo = λ input. AcceptsStructure (cert_info_refusal input) (length input)
AcceptsForm form.PubArea = λ input. AcceptsStructure (pub_area_refusal input) (length input)
AcceptsForm (form.Json k) = AcceptsJson k

abbrev pub Accepts : Definition Form → List ℕ → ℕ → Type 0
Accepts item = IsFrontLength
Accepts authenticator = AcceptsData
Accepts (message t tree) = AcceptsMessage t
Accepts (other f) = AcceptsForm f

-- this is the fault's status, these bytes are refused, and this is said of them
abbrev pub TellsForm : Form → List ℕ → ℕ → Refusal → List ℕ → Type 0
TellsForm form.Key = TellsNoKey
TellsForm (form.Statement f) = TellsStatement f
TellsForm form.CertInfo = λ input. TellsStructure (cert_info_refusal input)
TellsForm form.PubArea = λ input. TellsStructure (pub_area_refusal input)
TellsForm (form.Json k) = TellsJson k

abbrev pub Tells : Definition Form → List ℕ → ℕ → Refusal → List ℕ → Type 0
Tells item = TellsItem
Tells authenticator = TellsData
Tells (message t tree) = TellsMessage t
Tells (other f) = TellsForm f

-- ---- what more is asked

-- How many of the bytes from where a rule is broken break it: the data item there, or all that follow one.
abbrev pub IsBreachLength : Rule → List ℕ → ℕ → Type 0
IsBreachLength rule.NothingAfter rest n = n ≡ length rest
IsBreachLength r rest n = IsFrontLength rest n ⊎ (HasNoLeadingItem rest × (n ≡ length rest))

-- Where and by which rule the input isn't as is asked.
pub record TellsBreach (input : List ℕ) (found : NotCanonical) (status : ℕ) (refusal : Refusal) (text : List ℕ) : Type 0
  where
    pub fault : status ≡ denial_status (denial.NotCanonical found.rule)
    pub offset : refusal.offset ≡ found.offset
    pub len : IsBreachLength found.rule (drop found.offset input) refusal.len
    pub says : text ≡ not_canonical_text found

-- The kind accepts the input, which isn't as is asked.
pub record TellsUnmet (demands : Option Demands) (d : Definition Form) (input : List ℕ) (status : ℕ) (refusal : Refusal)
    (text : List ℕ) : Type 0 where
  pub read : ℕ
  pub accepts : Accepts d input read
  pub found : NotCanonical
  pub unmet : IsUnmetIn demands (is_item d) input read found
  pub tells : TellsBreach input found status refusal text

abbrev pub AcceptsAsked : Option Demands → Definition Form → List ℕ → ℕ → Type 0
AcceptsAsked demands d input n = Accepts d input n × MeetsAsked demands (is_item d) input n

abbrev pub TellsAsked : Option Demands → Definition Form → List ℕ → ℕ → Refusal → List ℕ → Type 0
TellsAsked demands d input status refusal text =
    Tells d input status refusal text ⊎ TellsUnmet demands d input status refusal text

abbrev pub ExplainsAs : Option Kind → Option Demands → List ℕ → Memory → Memory → ℕ → Type 0
ExplainsAs (Some kind) demands input old new status =
    let d = definition kind in Explaining (AcceptsAsked demands d input) (TellsAsked demands d input) old new status
ExplainsAs None demands input old new status = IsUnknown old new status
