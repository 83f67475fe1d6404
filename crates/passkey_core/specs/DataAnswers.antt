-- The results of decoding that may run out of memory.
use Rattle.std.specs.Prelude.{Result, Ok, Err}
use Rattle.passkey_cose.specs.declared.error.CoseError.{CoseError}
use Rattle.passkey_cose.specs.declared.error.CoseError.TheVariants.{DecodeFailed, OutOfMemory, OutOfRangeIntegerValue, DuplicateMapKey, UnexpectedItem}

-- a result that `answers` allows, by its view; or out of memory, which can happen only if `memory` holds
abbrev pub Returns : {A B : Type 0} → Type 0 → (A → B) → (Result B CoseError → Type 0) → Result A CoseError → Type 0
Returns memory seen answers (Ok x) = answers (Ok (seen x))
Returns memory seen answers (Err OutOfMemory) = memory
Returns memory seen answers (Err DecodeFailed) = answers (Err DecodeFailed)
Returns memory seen answers (Err OutOfRangeIntegerValue) = answers (Err OutOfRangeIntegerValue)
Returns memory seen answers (Err DuplicateMapKey) = answers (Err DuplicateMapKey)
Returns memory seen answers (Err UnexpectedItem) = answers (Err UnexpectedItem)
