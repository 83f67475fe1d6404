-- Laws of repairs.
use Rattle.std.proofs.Common.{◌≡◌, List, [], ◌∷◌, Option, Some, None, Result, Ok, Bool, true, false, true≢false, unwrap_or, refl, sym, ap, ◌∙◌, subst}
use Rattle.std.specs.Result.{result_ok}
use Rattle.passkey_json.specs.Fault.{Fault}
use Rattle.passkey_json.specs.Kind.{Kind}
use Rattle.passkey_json.specs.Members.{◌>>=◌, Object, record_kind}
use Rattle.passkey_repair.specs.json.Edits.{Edit, edited}
use Rattle.passkey_repair.specs.json.Laws.{AcceptedIsDecoded, AcceptedIsUnchanged, EmptyIfNoneFits, ListIsComplete, NoneFits}
use Rattle.passkey_repair.specs.json.Repairs.{decoded_with, edited_by, edited_if, if_made, edits_made, unless_accepted}
use Rattle.serde_json.specs.Data.{Data}

pub accepted_is_unchanged : {A : Type 0} (kind : Kind A) (es : List Edit) → AcceptedIsUnchanged kind es
accepted_is_unchanged {A} kind es d x is = ap (λ (o : Option A). unless_accepted o es d) is

pub accepted_is_decoded : {A : Type 0} (members : Object → Result A Fault) (es : List Edit)
    → AcceptedIsDecoded members es
accepted_is_decoded {A} members es d x is =
    ap (decoded_with members) (accepted_is_unchanged (record_kind members) es d x (ap result_ok is))
    ∙ ap (λ (r : Result A Fault). r >>= λ (y : A). Ok (let p : A × List Edit = (y, []) in p)) is

-- an edit that doesn't fit changes nothing
stays : (e : Edit) (d : Data) → edited e d ≡ None → edited_if e d ≡ d
stays e d is = ap (λ (o : Option Data). unwrap_or o d) is

-- ---- the listed edits make the same

same_step : (o : Option Data) (e : Edit) (es more : List Edit) (d : Data) → edited e d ≡ o
    → edited_by es (edited_if e d) ≡ edited_by more (edited_if e d)
    → edited_by es (edited_if e d) ≡ edited_by (if_made e o more) d
same_step (Some x) e es more d is same = same
same_step None e es more d is same = same ∙ ap (edited_by more) (stays e d is)

same_value : (es : List Edit) (d : Data) → edited_by es d ≡ edited_by (edits_made es d) d
same_value [] d = refl
same_value (e ∷ es) d =
    same_step (edited e d) e es (edits_made es (edited_if e d)) d refl (same_value es (edited_if e d))

same_list_step : (o : Option Data) (e : Edit) (more : List Edit) (d : Data) → edited e d ≡ o
    → edits_made more (edited_if e d) ≡ more → edits_made (if_made e o more) d ≡ if_made e o more
same_list_step (Some x) e more d is same =
    ap (λ (o : Option Data). if_made e o (edits_made more (edited_if e d))) is ∙ ap (λ (es : List Edit). e ∷ es) same
same_list_step None e more d is same = ap (edits_made more) (sym (stays e d is)) ∙ same

same_list : (es : List Edit) (d : Data) → edits_made (edits_made es d) d ≡ edits_made es d
same_list [] d = refl
same_list (e ∷ es) d =
    same_list_step (edited e d) e (edits_made es (edited_if e d)) d refl (same_list es (edited_if e d))

complete : {A : Type 0} (o : Option A) (es : List Edit) (d : Data)
    → ((unless_accepted o es d).0 ≡ edited_by (unless_accepted o es d).1 d)
    × (edits_made (unless_accepted o es d).1 d ≡ (unless_accepted o es d).1)
complete (Some x) es d = (refl, refl)
complete None es d = (same_value es d, same_list es d)

pub list_is_complete : {A : Type 0} (kind : Kind A) (es : List Edit) → ListIsComplete kind es
list_is_complete kind es d = complete (kind d) es d

-- ---- an empty list

abbrev is_empty : List Edit → Bool
is_empty [] = true
is_empty (e ∷ es) = false

none_fits_step : (o : Option Data) (e : Edit) (es : List Edit) (d : Data) → edited e d ≡ o
    → (edits_made es (edited_if e d) ≡ [] → NoneFits es (edited_if e d))
    → if_made e o (edits_made es (edited_if e d)) ≡ [] → (o ≡ None) × NoneFits es d
none_fits_step (Some x) e es d is later h = absurd (true≢false (sym (ap is_empty h)))
none_fits_step None e es d is later h = (refl, subst (λ (x : Data). NoneFits es x) (stays e d is) (later h))

none_fits : (es : List Edit) (d : Data) → edits_made es d ≡ [] → NoneFits es d
none_fits [] d h = tt
none_fits (e ∷ es) d h = none_fits_step (edited e d) e es d refl (none_fits es (edited_if e d)) h

empty : (es : List Edit) (d : Data) → NoneFits es d → edits_made es d ≡ []
empty [] d h = refl
empty (e ∷ es) d h =
    ap (λ (o : Option Data). if_made e o (edits_made es (edited_if e d))) h.0
    ∙ (ap (edits_made es) (stays e d h.0) ∙ empty es d h.1)

list_of : {A : Type 0} (o : Option A) (es : List Edit) (d : Data) → o ≡ None
    → (unless_accepted o es d).1 ≡ edits_made es d
list_of {A} o es d h = ap (λ (p : Option A). (unless_accepted p es d).1) h

pub empty_if_none_fits : {A : Type 0} (kind : Kind A) (es : List Edit) → EmptyIfNoneFits kind es
empty_if_none_fits kind es d h =
    (λ is. none_fits es d (sym (list_of (kind d) es d h) ∙ is), λ none. list_of (kind d) es d h ∙ empty es d none)
