-- The results of checking and of reading a data item.
use Rattle.std.specs.Prelude.{◌≡◌, false, Option, Some, None, Result, Ok, Err}
use Rattle.passkey_memory.specs.Memory.{Answers}
use Rattle.passkey_cose.specs.CoseErrors.{is_memory}
use Rattle.passkey_cose.specs.declared.error.CoseError.{CoseError}

-- `Ok` if there is no fault, and else the fault, which is never out of memory
abbrev pub Checks : Option CoseError → Result (Unit {0}) CoseError → Type 0
Checks fault (Ok x) = fault ≡ None
Checks fault (Err e) = (fault ≡ Some e) × (is_memory e ≡ false)

-- the specified result, by its view, or the specified error; or out of memory, only if the result takes memory
abbrev pub ReadsPart : {A B : Type 0} → (B → Type 0) → (A → B) → Result B CoseError → Result A CoseError → Type 0
ReadsPart = Answers is_memory
