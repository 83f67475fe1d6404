-- The results of calls that may run out of memory.
use Rattle.std.specs.Prelude.{◌≡◌, Bool, true, false, Option, Some, None, Result, Ok, Err}
use Rattle.std.specs.Result.{IsOkAnd}

-- `Err` of the fault if there is one, and else `Ok` of the value
abbrev pub unless : {B E : Type 0} → Option E → B → Result B E
unless None b = Ok b
unless (Some e) b = Err e

-- A call whose specified result is `wanted` may return the error e. If e means out of memory (`true`), then
-- `wanted` is a value that takes memory; any other error is `wanted` itself.
abbrev pub FailsBy : {B E : Type 0} → Bool → (B → Type 0) → Result B E → E → Type 0
FailsBy true Takes wanted e = IsOkAnd wanted Takes
FailsBy false Takes wanted e = wanted ≡ Err e

-- the same, where `is_memory` says which errors mean out of memory
abbrev pub Fails : {B E : Type 0} → (E → Bool) → (B → Type 0) → Result B E → E → Type 0
Fails is_memory Takes wanted e = FailsBy (is_memory e) Takes wanted e

-- The call returns a value whose view `seen` is the specified one, or it fails as above.
abbrev pub Answers : {A B E : Type 0} → (E → Bool) → (B → Type 0) → (A → B) → Result B E → Result A E → Type 0
Answers is_memory Takes seen wanted (Ok x) = wanted ≡ Ok (seen x)
Answers is_memory Takes seen wanted (Err e) = Fails is_memory Takes wanted e
