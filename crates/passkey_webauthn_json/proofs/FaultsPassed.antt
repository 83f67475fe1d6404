-- The fault of one step is the fault of the whole, for any view of the value.
use Rattle.std.proofs.Common.{◌≡◌, Result, Ok, Err}
use Rattle.std.specs.Result.{IsErrAnd}
use Rattle.passkey_json.proofs.Faults.{first_fault_passed}
use Rattle.passkey_json.specs.Fault.{Fault, Gives}
use Rattle.passkey_json.specs.Held.{GivesAs}
use Rattle.passkey_json.specs.Members.{◌>>=◌}
use Rattle.passkey_json.specs.declared.json_fault.JsonFault.{JsonFault}

pub fault_passed : {A B M : Type 0} (Part Whole : Type 0) (seen : B → M) (reads : Result A Fault) (e : JsonFault)
    (rest : A → Result M Fault) (passed : Result B JsonFault) → Gives Part reads (Err e)
    → IsErrAnd passed (λ f. f ≡ e) → (Part → Whole) → GivesAs Whole seen (reads >>= rest) passed
fault_passed Part Whole seen reads e rest (Ok x) told is takes = absurd is
fault_passed {M} Part Whole seen reads e rest (Err f) told is takes =
    first_fault_passed {B = M} Part Whole reads e rest (Err f) told is takes
