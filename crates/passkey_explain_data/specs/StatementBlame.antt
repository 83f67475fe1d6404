-- What in a data item isn't as in an attestation statement of a format (WebAuthn Level 3, section 8).
use Rattle.std.specs.Prelude.{◌≡◌, ◌+◌, ℕ, List, [], length, nat_lt, if◌then◌else◌, Option, Some, None, Result, Err, is_ok, true}
use Rattle.passkey_attestation.specs.Formats.{format_name}
use Rattle.passkey_attestation.specs.Statement.{StatementParts, read_statement}
use Rattle.passkey_attestation.specs.Statements.{packed, tpm, android_key, safety_net, fido_u2f, apple, element, ElementParts}
use Rattle.passkey_attestation.specs.declared.fault.StatementFault.{StatementFault}
use Rattle.passkey_attestation.specs.declared.format.AttestationFormat.{AttestationFormat}
use Rattle.passkey_attestation.specs.declared.format.AttestationFormat.TheVariants as format
use Rattle.passkey_cbor.specs.Item as item
use Rattle.passkey_explain.specs.Along.{LiesAlong}
use Rattle.passkey_explain.specs.Blame.{Blame, Step, at_fault, blame_of}
use Rattle.passkey_explain.specs.Blaming.{blamed}
use Rattle.passkey_explain_data.specs.declared.statement.StatementBlame.{StatementBlame as CodeBlame}
use Rattle.passkey_explain_data.specs.declared.statement.StatementBlame.TheVariants as code
use Rattle.passkey_explain_data.specs.declared.statement.StatementExplanation.{StatementExplanation}
use Rattle.passkey_explain_data.specs.declared.statement.StatementExplanation.TheVariants.{NotWellFormed, Refused}
use Rattle.passkey_explain_data.specs.declared.statement.StatementRefusal.{StatementRefusal}
use Rattle.passkey_kinds.specs.Kind.{list_from}
use Rattle.passkey_kinds.specs.Message.{Begins}
use Rattle.passkey_kinds.specs.RecordReading.{nested, shape_of}
use Rattle.passkey_kinds.specs.Typed.{list_shape}
use Rattle.passkey_kinds.specs.Words.{Item, PlainTable, fields_of, plain_kind}
use Rattle.passkey_kinds.specs.declared.fault.Fault.TheVariants.{NotAMap}
use Rattle.passkey_malformed.specs.Stops.{IsMalformed}

-- What in a statement is to blame: what the shape of a map or of a list blames; or the whole statement, which has
-- members where there are none, too few elements, or an element that is compound itself.
pub data StatementBlame : Type 0 where
  in_item : Blame → StatementBlame
  not_empty : StatementBlame
  too_few : StatementBlame
  nested_compound : StatementBlame

abbrev pub blame_of_statement : CodeBlame → StatementBlame
blame_of_statement (code.Item b) = in_item (blame_of b)
blame_of_statement code.NotEmpty = not_empty
blame_of_statement code.TooFew = too_few
blame_of_statement code.Nested = nested_compound

-- the steps from the statement to what is to blame
abbrev pub path_to : StatementBlame → List Step
path_to (in_item b) = b.path
path_to _ = []

-- a map, by its table
abbrev pub map_blame : {P : Type 0} → PlainTable P → Item → StatementBlame
map_blame t i = in_item (blamed (shape_of (fields_of t)) i)

-- a map without members
abbrev pub none_blame : Item → StatementBlame
none_blame (item.map ps) = not_empty
none_blame _ = in_item (at_fault NotAMap)

-- elements, none of which is refused
abbrev pub elements_blame : List ElementParts → StatementBlame
elements_blame es = if nat_lt (length es) 2 then too_few else nested_compound

abbrev pub compound_blame_by : Option (List ElementParts) → Item → StatementBlame
compound_blame_by None i = in_item (blamed (list_shape (nested (fields_of element))) i)
compound_blame_by (Some es) i = elements_blame es

abbrev pub compound_blame : Item → StatementBlame
compound_blame i = compound_blame_by (list_from (plain_kind element) i) i

-- what is to blame if the item isn't a statement of the format
abbrev pub statement_blame : AttestationFormat → Item → StatementBlame
statement_blame format.Packed = map_blame packed
statement_blame format.Tpm = map_blame tpm
statement_blame format.AndroidKey = map_blame android_key
statement_blame format.AndroidSafetyNet = map_blame safety_net
statement_blame format.FidoU2f = map_blame fido_u2f
statement_blame format.None = none_blame
statement_blame format.Apple = map_blame apple
statement_blame format.Compound = compound_blame

-- decoding has this fault, or none
abbrev pub IsFaultOf : Result StatementParts StatementFault → Option StatementFault → Type 0
IsFaultOf read None = is_ok read ≡ true
IsFaultOf read (Some e) = read ≡ Err e

-- The data item has this fault as a statement of the format, this is to blame, and it is encoded between these offsets.
pub record IsStatementExplained (f : AttestationFormat) (i : Item) (bytes : List ℕ) (r : StatementRefusal) : Type 0 where
  pub fault : read_statement (format_name f) i ≡ Err r.fault
  pub blame : blame_of_statement r.blame ≡ statement_blame f i
  pub lies : LiesAlong (path_to (statement_blame f i)) i bytes 0 r.extent.offset (r.extent.offset + r.extent.len)

-- The data item is decoded as a statement of the format, or explained.
abbrev pub ExplainsStatementItem : AttestationFormat → Item → List ℕ → Option StatementRefusal → Type 0
ExplainsStatementItem f i bytes None = is_ok (read_statement (format_name f) i) ≡ true
ExplainsStatementItem f i bytes (Some r) = IsStatementExplained f i bytes r

-- The bytes begin with a statement of the format; or they don't begin with a well-formed data item, and it is said where and
-- why; or the one that begins them is explained.
abbrev pub ExplainsStatement : AttestationFormat → List ℕ → Option StatementExplanation → Type 0
ExplainsStatement f bytes None = Begins bytes (λ i len. is_ok (read_statement (format_name f) i) ≡ true)
ExplainsStatement f bytes (Some (NotWellFormed m)) = IsMalformed bytes m
ExplainsStatement f bytes (Some (Refused r)) = Begins bytes (λ i len. IsStatementExplained f i bytes r)
