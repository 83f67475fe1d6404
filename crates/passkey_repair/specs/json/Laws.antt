-- What repairs leave alone, and what their list says.
use Rattle.std.specs.Prelude.{◌≡◌, ◌↔◌, List, [], ◌∷◌, Some, None, Result, Ok}
use Rattle.passkey_json.specs.Fault.{Fault}
use Rattle.passkey_json.specs.Kind.{Kind}
use Rattle.passkey_json.specs.Members.{Object, in_object}
use Rattle.passkey_repair.specs.json.Edits.{Edit, edited}
use Rattle.passkey_repair.specs.json.Repairs.{Repaired, decoded_leniently, edited_by, edits_made, repaired}
use Rattle.serde_json.specs.Data.{Data}

-- A value that is accepted stays as it is, without an edit.
abbrev pub AcceptedIsUnchanged : {A : Type 0} → Kind A → List Edit → Type 0
AcceptedIsUnchanged {A} kind es =
    (d : Data) (x : A) → kind d ≡ Some x → repaired kind es d ≡ (let r : Repaired = (d, []) in r)

-- What an accepted value decodes to, it decodes to leniently, too, without an edit.
abbrev pub AcceptedIsDecoded : {A : Type 0} → (Object → Result A Fault) → List Edit → Type 0
AcceptedIsDecoded {A} members es = (d : Data) (x : A) → in_object members d ≡ Ok x
    → decoded_leniently members es d ≡ Ok (let r : A × List Edit = (x, []) in r)

-- The listed edits alone make the same of the value, and each of them fits in its turn.
abbrev pub ListIsComplete : {A : Type 0} → Kind A → List Edit → Type 0
ListIsComplete kind es = (d : Data) → let r = repaired kind es d in
    (r.0 ≡ edited_by r.1 d) × (edits_made r.1 d ≡ r.1)

abbrev pub NoneFits : List Edit → Data → Type 0
NoneFits [] d = Unit {0}
NoneFits (e ∷ es) d = (edited e d ≡ None) × NoneFits es d

-- The list of a value that isn't accepted is empty exactly if no edit fits.
abbrev pub EmptyIfNoneFits : {A : Type 0} → Kind A → List Edit → Type 0
EmptyIfNoneFits kind es = (d : Data) → kind d ≡ None → ((repaired kind es d).1 ≡ []) ↔ NoneFits es d
