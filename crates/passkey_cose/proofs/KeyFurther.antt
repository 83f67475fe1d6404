-- If no member is bad, the labels of the other parameters are distinct.
use Rattle.std.specs.Option.{option_or}
use Rattle.std.proofs.Common.{◌≡◌, Bool, true, false, not, ◌∷◌, ◌++◌, [], Option, Some, None, if◌then◌else◌, refl}
use Rattle.std.proofs.lemmas.Bool.{or_parts, or_from}
use Rattle.std.proofs.lemmas.List.{append-nil, append_assoc}
use Rattle.std.proofs.lemmas.List.Elements.{filter-append}
use Rattle.passkey_cbor.specs.Item.{Item}
use Rattle.passkey_cbor.specs.Same.{item_eq}
use Rattle.passkey_cose.specs.KeyFaults.{name_fault, value_fault, member_fault, first_fault}
use Rattle.passkey_cose.specs.KeyLabels.{Members, is_common, has_label, are_separate}
use Rattle.passkey_cose.specs.KeyReading.{further}
use Rattle.passkey_cose.specs.declared.error.CoseError.{CoseError}
use Rattle.passkey_cose.specs.declared.error.CoseError.TheVariants.{DuplicateMapKey}
use Rattle.passkey_cose.proofs.KeySeparate.{separate-push}

pub none_either : {T : Type 0} (x y : Option T) → option_or x y ≡ None → (x ≡ None) × (y ≡ None)
none_either None y e = (refl, e)
none_either (Some x) y e = cc

-- a label that no member has is not among the other parameters
has_label-further : (ms : Members) (label : Item) → has_label ms label ≡ false
    → has_label (further ms) label ≡ false
has_label-further [] label e = refl
has_label-further (m ∷ ms) label e =
    let parts = or_parts (item_eq label m.0) (has_label ms label) e in
    let rest = has_label-further ms label parts.1 in
    elim (is_common m.0) as (λ (b : Bool). has_label (if not b then m ∷ further ms else further ms) label ≡ false) [
      | true ↦ rest
      | false ↦ or_from (item_eq label m.0) (has_label (further ms) label) parts.0 rest
    ]

no_repeat : (b : Bool) (e : CoseError) (fault : Option CoseError) → (if b then Some e else fault) ≡ None → b ≡ false
no_repeat true e fault h = cc
no_repeat false e fault h = refl

label_new : (earlier : Members) (m : Item × Item) → member_fault earlier m ≡ None → has_label earlier m.0 ≡ false
label_new earlier m e =
    no_repeat (has_label earlier m.0) DuplicateMapKey (value_fault m.0 m.1) (none_either (name_fault m.0)
    (if has_label earlier m.0 then Some DuplicateMapKey else value_fault m.0 m.1) e).1

-- one more member that isn't bad
further-push : (earlier : Members) (m : Item × Item) → member_fault earlier m ≡ None
    → are_separate (further earlier) ≡ true → are_separate (further (earlier ++ m ∷ [])) ≡ true
further-push earlier m e h =
    let new : has_label (further earlier) m.0 ≡ false = has_label-further earlier m.0 (label_new earlier m e) in
    let split : further (earlier ++ m ∷ []) ≡ further earlier ++ further (m ∷ []) =
    filter-append (λ (n : Item × Item). not (is_common n.0)) earlier (m ∷ []) in
    rw split ((elim (is_common m.0) as (λ (b : Bool). is_common m.0 ≡ b
    → are_separate (further earlier ++ (if not b then m ∷ [] else [])) ≡ true) [
      | true ↦ λ b. rw append-nil h
      | false ↦ λ b. separate-push (further earlier) m h b new
    ]) refl)

pub further_separate : (earlier ms : Members) → first_fault earlier ms ≡ None
    → are_separate (further earlier) ≡ true → are_separate (further (earlier ++ ms)) ≡ true
further_separate earlier [] e h = rw append-nil h
further_separate earlier (m ∷ ms) e h =
    let parts = none_either (member_fault earlier m) (first_fault (earlier ++ m ∷ []) ms) e in
    let here : are_separate (further ((earlier ++ m ∷ []) ++ ms)) ≡ true =
    further_separate (earlier ++ m ∷ []) ms parts.1 (further-push earlier m parts.0 h) in
    rw append_assoc at here
