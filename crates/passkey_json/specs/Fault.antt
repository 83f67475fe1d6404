-- The faults of records, and the result of decoding a record.
use Rattle.std.specs.Prelude.{◌≡◌, ℕ, Bool, true, false, List, Option, Some, None, Result, Ok, Err, is_ok}
use Rattle.passkey_json.specs.declared.json_fault.JsonFault.{JsonFault}
use Rattle.passkey_json.specs.declared.json_fault.JsonFault.TheVariants as json_fault
use Rattle.passkey_json.specs.declared.json_refusal.JsonRefusal.{JsonRefusal}
use Rattle.passkey_json.specs.declared.json_refusal.JsonRefusal.TheVariants as refusal

-- why a JSON value wasn't decoded as a record, with the name of the faulty member
pub data Fault : Type 0 where
  no_object : Fault
  missing : List ℕ → Fault
  refused : List ℕ → Fault
  float : List ℕ → Fault
  repeated : List ℕ → Fault

-- The result of decoding a record: the wanted one, whether a value or a fault; or `OutOfMemory`,
-- only if decoding takes memory.
abbrev pub Gives : {A : Type 0} → Type 0 → Result A Fault → Result A JsonFault → Type 0
Gives Takes wanted (Ok x) = wanted ≡ Ok x
Gives Takes wanted (Err json_fault.OutOfMemory) = Takes
Gives Takes wanted (Err json_fault.NotAnObject) = wanted ≡ Err no_object
Gives Takes wanted (Err (json_fault.Missing name)) = wanted ≡ Err (missing name.now)
Gives Takes wanted (Err (json_fault.Refused name)) = wanted ≡ Err (refused name.now)
Gives Takes wanted (Err (json_fault.Float name)) = wanted ≡ Err (float name.now)
Gives Takes wanted (Err (json_fault.Repeated name)) = wanted ≡ Err (repeated name.now)

-- the fault of a record inside another one: `Refused`, except if memory ran out
abbrev pub refusal_of : JsonFault → JsonRefusal
refusal_of json_fault.OutOfMemory = refusal.OutOfMemory
refusal_of _ = refusal.Refused

-- the fault, if there is one
abbrev pub fault_in : {A : Type 0} → Result A Fault → Option Fault
fault_in (Ok x) = None
fault_in (Err f) = Some f

-- the member that a fault names
abbrev pub fault_name : Fault → Option (List ℕ)
fault_name no_object = None
fault_name (missing name) = Some name
fault_name (refused name) = Some name
fault_name (float name) = Some name
fault_name (repeated name) = Some name

-- whether a member's value is rejected
abbrev pub is_refusal : Fault → Bool
is_refusal no_object = false
is_refusal (missing name) = false
is_refusal (refused name) = true
is_refusal (float name) = true
is_refusal (repeated name) = false

-- The fault of what was decoded, if it has one, but for `OutOfMemory`.
abbrev pub IsFaultOf : {A : Type 0} → Result A Fault → Option JsonFault → Type 0
IsFaultOf wanted None = is_ok wanted ≡ true
IsFaultOf wanted (Some fault) = Gives ⊥ wanted (Err fault)
