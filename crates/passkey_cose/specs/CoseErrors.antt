-- The errors of COSE, and how the errors of CBOR map to them.
use Rattle.std.specs.Prelude.{ℕ, Bool, true, false, List, codes}
use Rattle.passkey_cbor.specs.declared.error.CborError.{CborError}
use Rattle.passkey_cbor.specs.declared.error.CborError.TheVariants as cbor
use Rattle.passkey_cose.specs.declared.error.CoseError.{CoseError}
use Rattle.passkey_cose.specs.declared.error.CoseError.TheVariants as cose

abbrev pub cose_error_name : CoseError → List ℕ
cose_error_name cose.DecodeFailed = codes "DecodeFailed"
cose_error_name cose.OutOfMemory = codes "OutOfMemory"
cose_error_name cose.OutOfRangeIntegerValue = codes "OutOfRangeIntegerValue"
cose_error_name cose.DuplicateMapKey = codes "DuplicateMapKey"
cose_error_name cose.UnexpectedItem = codes "UnexpectedItem"

-- whether the error means out of memory
abbrev pub is_memory : CoseError → Bool
is_memory cose.OutOfMemory = true
is_memory _ = false

abbrev pub cose_error_of : CborError → CoseError
cose_error_of cbor.DecodeFailed = cose.DecodeFailed
cose_error_of cbor.OutOfMemory = cose.OutOfMemory
cose_error_of cbor.OutOfRangeIntegerValue = cose.OutOfRangeIntegerValue
