-- A member's fault is the record's fault, if the members before it have none.
use Rattle.std.proofs.Common.{◌≡◌, Result, Ok, Err, ap, sym, subst}
use Rattle.std.specs.Result.{IsErrAnd}
use Rattle.passkey_json.specs.Fault.{Fault, Gives}
use Rattle.passkey_json.specs.Members.{◌>>=◌}
use Rattle.passkey_json.specs.declared.json_fault.JsonFault.{JsonFault}
use Rattle.passkey_json.specs.declared.json_fault.JsonFault.TheVariants as fault

pub first_fault : {A B : Type 0} (Part Whole : Type 0) (reads : Result A Fault) (e : JsonFault)
    (rest : A → Result B Fault) → Gives Part reads (Err e) → (Part → Whole) → Gives Whole (reads >>= rest) (Err e)
first_fault Part Whole reads fault.OutOfMemory rest h takes = takes h
first_fault Part Whole reads _ rest h takes = ap (λ w. w >>= rest) h

pub first_fault_passed : {A B : Type 0} (Part Whole : Type 0) (reads : Result A Fault) (e : JsonFault)
    (rest : A → Result B Fault) (passed : Result B JsonFault) → Gives Part reads (Err e)
    → IsErrAnd passed (λ f. f ≡ e) → (Part → Whole) → Gives Whole (reads >>= rest) passed
first_fault_passed Part Whole reads e rest (Ok x) h is takes = absurd is
first_fault_passed Part Whole reads e rest (Err f) h is takes = subst
    (λ (k : JsonFault). Gives Whole (reads >>= rest) (Err k)) (sym is) (first_fault Part Whole reads e rest h takes)
