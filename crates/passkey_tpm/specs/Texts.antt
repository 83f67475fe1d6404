-- What is printed of structures of a TPM that are refused.
use Rattle.std.specs.Prelude.{ℕ, List, ◌++◌, codes}
use Rattle.std.specs.Fmt.{decimal}
use Rattle.passkey_tpm.specs.declared.refusal.TpmField.{TpmField}
use Rattle.passkey_tpm.specs.declared.refusal.TpmField.TheVariants as field
use Rattle.passkey_tpm.specs.declared.refusal.TpmReason.{TpmReason}
use Rattle.passkey_tpm.specs.declared.refusal.TpmReason.TheVariants as reason
use Rattle.passkey_tpm.specs.declared.refusal.TpmRefusal.{TpmRefusal}

-- a field's name in the structure (TPM 2.0 Library, Part 2)
abbrev pub field_name : TpmField → List ℕ
field_name field.Magic = codes "magic"
field_name field.AttestType = codes "type"
field_name field.QualifiedSigner = codes "qualifiedSigner"
field_name field.ExtraData = codes "extraData"
field_name field.Clock = codes "clockInfo.clock"
field_name field.ResetCount = codes "clockInfo.resetCount"
field_name field.RestartCount = codes "clockInfo.restartCount"
field_name field.Safe = codes "clockInfo.safe"
field_name field.FirmwareVersion = codes "firmwareVersion"
field_name field.Name = codes "attested.name"
field_name field.QualifiedName = codes "attested.qualifiedName"
field_name field.KeyType = codes "type"
field_name field.NameAlg = codes "nameAlg"
field_name field.ObjectAttributes = codes "objectAttributes"
field_name field.AuthPolicy = codes "authPolicy"
field_name field.Symmetric = codes "parameters.symmetric"
field_name field.Scheme = codes "parameters.scheme"
field_name field.SchemeHash = codes "parameters.scheme.hashAlg"
field_name field.SchemeCount = codes "parameters.scheme.count"
field_name field.KeyBits = codes "parameters.keyBits"
field_name field.Exponent = codes "parameters.exponent"
field_name field.Modulus = codes "unique"
field_name field.CurveId = codes "parameters.curveID"
field_name field.Kdf = codes "parameters.kdf"
field_name field.KdfHash = codes "parameters.kdf.hashAlg"
field_name field.X = codes "unique.x"
field_name field.Y = codes "unique.y"
field_name field.Trailing = codes "trailing bytes"

-- what is wanted in a field
abbrev pub wanted_text : TpmField → List ℕ
wanted_text field.Magic = codes "TPM_GENERATED_VALUE (ff544347) is wanted"
wanted_text field.AttestType = codes "TPM_ST_ATTEST_CERTIFY (8017) is wanted"
wanted_text field.KeyType = codes "TPM_ALG_RSA (0001) or TPM_ALG_ECC (0023) is wanted"
wanted_text field.Symmetric = codes "TPM_ALG_NULL (0010) is wanted"
wanted_text _ = codes "this TPM_ALG_ID isn't known here"

-- why a field is refused
abbrev pub reason_text : TpmReason → TpmField → List ℕ
reason_text reason.CutOff f = codes "the bytes end before this field does"
reason_text reason.OtherConstant f = wanted_text f
reason_text reason.Unknown f = wanted_text f
reason_text reason.BytesFollow f = codes "no bytes may follow the last field"

abbrev pub refusal_text : TpmRefusal → List ℕ
refusal_text r = field_name r.field ++ codes ": " ++ reason_text r.reason r.field ++ codes " (offset "
    ++ decimal r.offset ++ codes ", length " ++ decimal r.len ++ codes ")"
