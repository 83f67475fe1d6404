-- What repairs list.
use Rattle.passkey_cbor.specs.Item.{Item}
use Rattle.passkey_repair.specs.messages.Edit.{Edit, edited}
use Rattle.passkey_repair.specs.messages.Laws.{ListIsWhatWasDone, NoneIsListedIfNoneFits, applied}
use Rattle.passkey_repair.specs.messages.Repaired.{Repaired, repaired, with_edit}
use Rattle.std.proofs.Common.{List, None, Option, Some, [], ap, refl, sym, unwrap_or, ◌++◌, ◌∙◌, ◌↔◌, ◌∷◌, ◌≡◌}
use Rattle.std.specs.List.{AllByRecursion}
use Rattle.std.specs.Option.{option_and_then}

done_from : (e : Edit) (es : List Edit) (i : Item) (o : Option Item) → edited e i ≡ o
    → ((j : Item) → applied (repaired es j).edits j ≡ Some (repaired es j).item)
    → applied (with_edit e o (repaired es (unwrap_or o i))).edits i
    ≡ Some (with_edit e o (repaired es (unwrap_or o i))).item
done_from e es i None fits rest = rest i
done_from e es i (Some j) fits rest = ap (option_and_then (applied (repaired es j).edits)) fits ∙ rest j

pub list_is_what_was_done : ListIsWhatWasDone
list_is_what_was_done [] i = refl
list_is_what_was_done (e ∷ es) i = done_from e es i (edited e i) refl (list_is_what_was_done es)

abbrev NoneFits : List Edit → Item → Type 0
NoneFits es i = AllByRecursion (λ (e : Edit). edited e i ≡ None) es

none_from : (e : Edit) (es : List Edit) (i : Item) (o : Option Item) → edited e i ≡ o
    → (((repaired es i).edits ≡ []) ↔ NoneFits es i)
    → ((with_edit e o (repaired es (unwrap_or o i))).edits ≡ []) ↔ ((edited e i ≡ None) × NoneFits es i)
none_from e es i None fits rest = (λ h. (fits, rest.0 h), λ h. rest.1 h.1)
none_from e es i (Some j) fits rest = (λ h. cc, λ h. let no : Some j ≡ None = sym fits ∙ h.0 in cc)

pub none_is_listed_if_none_fits : NoneIsListedIfNoneFits
none_is_listed_if_none_fits [] i = (λ h. tt, λ h. refl)
none_is_listed_if_none_fits (e ∷ es) i = none_from e es i (edited e i) refl (none_is_listed_if_none_fits es i)

-- ---- a repaired item, whose edits come after these

abbrev pub following : List Edit → Repaired → Repaired
following es r = record { item = r.item; edits = es ++ r.edits }
