-- Distinct labels, followed by one more.
use Rattle.std.proofs.Common.{◌≡◌, true, false, not, ◌&&◌, ◌||◌, [], ◌∷◌, ◌++◌, refl, sym, ◌∙◌}
use Rattle.std.proofs.lemmas.Bool.{both_ways, and_parts, and_from, or_parts, or_from, not-true, not_from_false, false_from_ne_true}
use Rattle.std.proofs.lemmas.List.Folds.{list_any-append}
use Rattle.passkey_cbor.specs.Item.{Item}
use Rattle.passkey_cbor.specs.Same.{item_eq}
use Rattle.passkey_cbor.specs.SameItems.{item_Decides}
use Rattle.passkey_cose.specs.KeyLabels.{Members, is_common, has_label, are_separate}

pub unequal_flip : (x y : Item) → item_eq x y ≡ false → item_eq y x ≡ false
unequal_flip x y e = false_from_ne_true (item_eq y x)
    (λ h. both_ways (item_eq x y) e ((item_Decides x y).1 (sym ((item_Decides y x).0 h))))

pub has_label-push : (ms : Members) (m : Item × Item) (label : Item) → has_label ms label ≡ false
    → item_eq label m.0 ≡ false → has_label (ms ++ m ∷ []) label ≡ false
has_label-push ms m label old new =
    list_any-append (λ (e : Item × Item). item_eq label e.0) ms (m ∷ [])
    ∙ or_from (has_label ms label) (item_eq label m.0 || false) old (or_from (item_eq label m.0) false new refl)

pub separate-push : (ms : Members) (m : Item × Item) → are_separate ms ≡ true → is_common m.0 ≡ false
    → has_label ms m.0 ≡ false → are_separate (ms ++ m ∷ []) ≡ true
separate-push [] m h common new = and_from (not (is_common m.0) && not false) true
    (and_from (not (is_common m.0)) (not false) (not_from_false (is_common m.0) common) refl) refl
separate-push (e ∷ ms) m h common new =
    let parts = and_parts (not (is_common e.0) && not (has_label ms e.0)) (are_separate ms) h in
    let heads = and_parts (not (is_common e.0)) (not (has_label ms e.0)) parts.0 in
    let news = or_parts (item_eq m.0 e.0) (has_label ms m.0) new in
    let label = has_label-push ms m e.0 (not-true (has_label ms e.0) heads.1) (unequal_flip m.0 e.0 news.0) in
    and_from (not (is_common e.0) && not (has_label (ms ++ m ∷ []) e.0)) (are_separate (ms ++ m ∷ []))
    (and_from (not (is_common e.0)) (not (has_label (ms ++ m ∷ []) e.0)) heads.0
    (not_from_false (has_label (ms ++ m ∷ []) e.0) label))
    (separate-push ms m parts.1 common news.1)

-- if the labels are distinct, the first one doesn't occur among the others
pub separate_parts : (m : Item × Item) (ms : Members) → are_separate (m ∷ ms) ≡ true
    → (has_label ms m.0 ≡ false) × (are_separate ms ≡ true)
separate_parts m ms h =
    let parts = and_parts (not (is_common m.0) && not (has_label ms m.0)) (are_separate ms) h in
    let heads = and_parts (not (is_common m.0)) (not (has_label ms m.0)) parts.0 in
    (not-true (has_label ms m.0) heads.1, parts.1)
