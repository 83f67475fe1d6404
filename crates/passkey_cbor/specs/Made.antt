-- The result of a checked constructor.
use Rattle.std.specs.Prelude.{◌≡◌, Result, Ok, Err}
use Rattle.passkey_cbor.specs.declared.error.CborError.{CborError}
use Rattle.passkey_cbor.specs.declared.error.CborError.TheVariants.{OutOfRangeIntegerValue}

-- this value exactly if the fact holds, and else `OutOfRangeIntegerValue`
abbrev pub MadeWhere : {T : Type 0} → Type 0 → T → Result T CborError → Type 0
MadeWhere fact made (Ok x) = fact × (x ≡ made)
MadeWhere fact made (Err e) = (¬ fact) × (e ≡ OutOfRangeIntegerValue)
