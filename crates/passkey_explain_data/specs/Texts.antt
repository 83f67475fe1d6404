-- What is printed of authenticator data, keys and attestation statements that are refused.
use Rattle.std.specs.Prelude.{ℕ, ℤ, pos, negsuc, ◌==◌, Bool, true, false, ◌&&◌, ◌||◌, List, ◌++◌, codes, Option, Some, None, option_map, if◌then◌else◌}
use Rattle.std.specs.Fmt.{decimal, signed_decimal}
use Rattle.passkey_cbor.specs.Item.{number}
use Rattle.passkey_cose.specs.declared.error.CoseError.{CoseError}
use Rattle.passkey_cose.specs.declared.error.CoseError.TheVariants.{DuplicateMapKey, OutOfRangeIntegerValue}
use Rattle.passkey_explain.specs.Blame.{blame_of}
use Rattle.passkey_explain.specs.DescribedData.{parameter_name}
use Rattle.passkey_explain.specs.Texts.{blame_text, extent_text}
use Rattle.passkey_explain_data.specs.declared.key.KeyBlame.{KeyBlame}
use Rattle.passkey_explain_data.specs.declared.key.KeyBlame.TheVariants as blame
use Rattle.passkey_explain_data.specs.declared.key.KeyRefusal.{KeyRefusal}
use Rattle.passkey_explain_data.specs.declared.part.DataReason.{DataReason}
use Rattle.passkey_explain_data.specs.declared.part.DataReason.TheVariants as reason
use Rattle.passkey_explain_data.specs.declared.part.DataRefusal.{DataRefusal}
use Rattle.passkey_malformed.specs.Why.{malformed_text, why_text}
use Rattle.passkey_explain_data.specs.declared.part.DataPart.{DataPart}
use Rattle.passkey_explain_data.specs.declared.part.DataPart.TheVariants as part
use Rattle.passkey_explain_data.specs.declared.statement.StatementBlame.{StatementBlame}
use Rattle.passkey_explain_data.specs.declared.statement.StatementBlame.TheVariants as statement
use Rattle.passkey_explain_data.specs.declared.statement.StatementExplanation.{StatementExplanation}
use Rattle.passkey_explain_data.specs.declared.statement.StatementExplanation.TheVariants.{NotWellFormed, Refused}
use Rattle.passkey_explain_data.specs.declared.statement.StatementRefusal.{StatementRefusal}

-- ---- COSE keys

-- the name of a parameter, by the numbers of the key type and of the label
unfoldable pub label_name : Option ℤ → ℤ → Option (List ℕ)
label_name kty label = parameter_name (option_map number kty) (number label)

abbrev pub name_or_label : Option (List ℕ) → ℤ → List ℕ
name_or_label (Some name) label = name
name_or_label None label = codes "label " ++ signed_decimal label

abbrev pub label_text : Option ℤ → ℤ → List ℕ
label_text kty label = name_or_label (label_name kty label) label

-- why a label is refused that is no integer of 64 signed bits
abbrev pub label_fault_text : CoseError → List ℕ
label_fault_text DuplicateMapKey = codes "a label is repeated"
label_fault_text OutOfRangeIntegerValue = codes "a label has more than 64 signed bits"
label_fault_text _ = codes "a label is neither an integer nor a text"

abbrev pub is_number : ℕ → ℤ → Bool
is_number n (pos m) = m == n
is_number n (negsuc m) = false

-- the key type 0 is reserved (IANA, COSE Key Types)
abbrev pub is_reserved : Option ℤ → Bool
is_reserved (Some kty) = is_number 0 kty
is_reserved None = false

-- what is wanted under a label (RFC 9052, section 7.1)
abbrev pub wanted_under : Option ℤ → ℤ → List ℕ
wanted_under kty label =
    if is_number 1 label && is_reserved kty then codes "this key type is reserved" else (
    if is_number 2 label || is_number 5 label then codes "a byte string that isn't empty is wanted" else (
    if is_number 4 label then codes "an array of different integers or texts is wanted"
    else codes "an integer or a text is wanted"))

-- why the value under one of the labels 1 to 5 is refused
abbrev pub value_fault_text : CoseError → Option ℤ → ℤ → List ℕ
value_fault_text OutOfRangeIntegerValue kty label = codes "an integer of 64 signed bits is wanted"
value_fault_text _ kty label = wanted_under kty label

-- whether a label is to blame, or its value, that is an integer of 64 signed bits
abbrev pub has_parameter : KeyBlame → Bool
has_parameter (blame.Label n (Some label)) = true
has_parameter (blame.Value n (Some label)) = true
has_parameter _ = false

abbrev pub key_blame_text : CoseError → Option ℤ → KeyBlame → List ℕ
key_blame_text e kty blame.NotAMap = codes "a map is wanted"
key_blame_text e kty blame.NoType = codes "kty is missing"
key_blame_text e kty (blame.Label n (Some label)) = label_text kty label ++ codes ": this label is repeated"
key_blame_text e kty (blame.Label n None) = label_fault_text e
key_blame_text e kty (blame.Value n (Some label)) =
    label_text kty label ++ codes ": " ++ value_fault_text e kty label
key_blame_text e kty (blame.Value n None) = label_fault_text e

abbrev pub key_refusal_text : KeyRefusal → List ℕ
key_refusal_text r = key_blame_text r.fault r.key_type r.blame

-- ---- authenticator data

abbrev pub part_name : DataPart → List ℕ
part_name part.RpIdHash = codes "rpIdHash"
part_name part.Flags = codes "flags"
part_name part.SignCount = codes "signCount"
part_name part.Aaguid = codes "aaguid"
part_name part.CredentialIdLength = codes "credentialIdLength"
part_name part.CredentialId = codes "credentialId"
part_name part.CredentialPublicKey = codes "credentialPublicKey"
part_name part.Extensions = codes "extensions"
part_name part.Trailing = codes "trailing bytes"

-- a key's refusal after the part: the parameter's name follows it, or what is said of the key
abbrev pub within_key : KeyRefusal → List ℕ
within_key r = (if has_parameter r.blame then codes "." else codes ": ") ++ key_refusal_text r

-- why a part is refused, after its name
abbrev pub data_reason_text : DataReason → List ℕ
data_reason_text reason.CutOff = codes ": the bytes end before this part does"
data_reason_text reason.ReservedFlags = codes ": bit 1 or 5 is set, which is reserved"
data_reason_text (reason.NotWellFormed m) = codes ": " ++ why_text m.why
data_reason_text (reason.Key refusal extent) = within_key refusal
data_reason_text reason.NotAMap = codes ": a map is wanted"
data_reason_text reason.BytesFollow = codes ": no bytes may follow the last part"

-- where what is to blame is, in a part of this extent
abbrev pub place_text : DataReason → List ℕ → List ℕ
place_text (reason.NotWellFormed m) part = codes " (offset " ++ decimal m.offset ++ codes ")"
place_text (reason.Key refusal extent) part = codes " " ++ extent_text extent
place_text _ part = codes " " ++ part

abbrev pub data_refusal_text : DataRefusal → List ℕ
data_refusal_text r = part_name r.part ++ data_reason_text r.reason ++ place_text r.reason (extent_text r.extent)

-- ---- attestation statements

abbrev pub statement_blame_text : StatementBlame → List ℕ
statement_blame_text (statement.Item b) = blame_text (blame_of b)
statement_blame_text statement.NotEmpty = codes "a map without members is wanted"
statement_blame_text statement.TooFew = codes "at least two statements are wanted"
statement_blame_text statement.Nested = codes "an element is of the format compound itself"

abbrev pub statement_text : StatementRefusal → List ℕ
statement_text r = statement_blame_text r.blame ++ codes " " ++ extent_text r.extent

abbrev pub statement_explanation_text : StatementExplanation → List ℕ
statement_explanation_text (NotWellFormed m) = malformed_text m
statement_explanation_text (Refused r) = statement_text r
