-- Values that are repaired, and records that are then decoded.
use Rattle.std.specs.Prelude.{List, [], ◌∷◌, map, Option, Some, None, unwrap_or, Result, Ok, Vec}
use Rattle.std.specs.declared.alloc.Global.{Global}
use Rattle.passkey_json.specs.Fault.{Fault}
use Rattle.passkey_json.specs.Kind.{Kind}
use Rattle.passkey_json.specs.Members.{◌>>=◌, Object, in_object, record_kind}
use Rattle.passkey_repair.specs.json.Edits.{Edit, edit_of, edited}
use Rattle.passkey_repair.specs.declared.json.repair.Repair.{Repair}
use Rattle.serde_json.specs.Data.{Data}

-- the value with the edit made, or as it is if the edit doesn't fit
abbrev pub edited_if : Edit → Data → Data
edited_if e d = unwrap_or (edited e d) d

-- the value with these edits made in turn, each where it fits
abbrev pub edited_by : List Edit → Data → Data
edited_by [] d = d
edited_by (e ∷ es) d = edited_by es (edited_if e d)

abbrev pub if_made : {A : Type 0} → Edit → Option A → List Edit → List Edit
if_made e (Some x) es = e ∷ es
if_made e None es = es

-- those of the edits that fit
abbrev pub edits_made : List Edit → Data → List Edit
edits_made [] d = []
edits_made (e ∷ es) d = if_made e (edited e d) (edits_made es (edited_if e d))

-- a value, and the edits that were made
abbrev pub Repaired : Type 0
Repaired = Data × List Edit

abbrev pub unless_accepted : {A : Type 0} → Option A → List Edit → Data → Repaired
unless_accepted (Some x) es d = (d, [])
unless_accepted None es d = (edited_by es d, edits_made es d)

-- A value that the kind accepts as it is, without an edit; any other one with these edits made.
abbrev pub repaired : {A : Type 0} → Kind A → List Edit → Data → Repaired
repaired kind es d = unless_accepted (kind d) es d

-- what the repaired value decodes to, with the edits that were made
abbrev pub decoded_with : {A : Type 0} → (Object → Result A Fault) → Repaired → Result (A × List Edit) Fault
decoded_with {A} members r = in_object members r.0 >>= λ (x : A). Ok (let p : A × List Edit = (x, r.1) in p)

abbrev pub decoded_leniently : {A : Type 0} → (Object → Result A Fault) → List Edit → Data
    → Result (A × List Edit) Fault
decoded_leniently members es d = decoded_with members (repaired (record_kind members) es d)

-- ---- the code's types

-- a record, and the edits that were made
abbrev pub record_and_edits : {A : Type 0} → A × Vec Repair Global → A × List Edit
record_and_edits r = (r.0, map edit_of r.1.items)
