-- The names of errors, as they are displayed.
use Rattle.std.specs.Prelude.{ℕ, List, codes}
use Rattle.passkey_cbor.specs.declared.error.CborError.{CborError}
use Rattle.passkey_cbor.specs.declared.error.CborError.TheVariants as error

abbrev pub cbor_error_name : CborError → List ℕ
cbor_error_name error.DecodeFailed = codes "DecodeFailed"
cbor_error_name error.OutOfMemory = codes "OutOfMemory"
cbor_error_name error.OutOfRangeIntegerValue = codes "OutOfRangeIntegerValue"
