-- Adding a name to those that occurred before.
use Rattle.std.specs.Prelude.{ℤ}
use Rattle.std.specs.BTreeSet.{BTreeSet, Updates, contains, contains_by}
use Rattle.std.specs.Cmp.Lexicographic.{slice_cmp}
use Rattle.std.specs.List.{list_any}
use Rattle.std.specs.Ordering.{int_cmp, nat_cmp}
use Rattle.std.proofs.Common.{◌≡◌, ◌∙◌, ℕ, List, [], ◌∷◌, ◌++◌, Bool, true, false, not, ◌||◌, cond, Bor, refl, sym, ap}
use Rattle.std.proofs.lemmas.List.Folds.{list_any-append}
use Rattle.std.proofs.lemmas.Map.Text.{is_eq-slice_cmp}
use Rattle.passkey_cbor.specs.Item.{Item, number, text_string}
use Rattle.passkey_cbor.specs.Same.{item_eq}
use Rattle.passkey_cbor.specs.SameItems.{item_eq-equivalence}
use Rattle.passkey_cose.specs.KeyLabels.{Members, has_label}
use Rattle.passkey_cose.specs.Seen.{HoldsNames, labels_of}
use Rattle.passkey_cose.specs.declared.seen.Seen.{Seen}

or_cond : (b h : Bool) → cond b true h ≡ (h || (b || false))
or_cond true true = refl
or_cond true false = refl
or_cond false true = refl
or_cond false false = refl

or_none : (h : Bool) → h ≡ (h || (false || false))
or_none true = refl
or_none false = refl

-- after y is added, x is in the set if it is y or was in the set
with_name : (x y : Item) (names : List Item) (held : Bool) → held ≡ list_any (item_eq x) names
    → cond (item_eq y x) true held ≡ list_any (item_eq x) (names ++ y ∷ [])
with_name x y names held e =
    ap (λ b. cond b true held) (item_eq-equivalence.symm y x)
    ∙ or_cond (item_eq x y) held
    ∙ ap (λ h. h || (item_eq x y || false)) e
    ∙ sym (list_any-append (item_eq x) names (y ∷ []))

-- adding y, which isn't x, doesn't change whether x is in the set
beside_name : (x y : Item) (names : List Item) (held : Bool) → item_eq x y ≡ false
    → held ≡ list_any (item_eq x) names → held ≡ list_any (item_eq x) (names ++ y ∷ [])
beside_name x y names held other e =
    e
    ∙ or_none (list_any (item_eq x) names)
    ∙ ap (λ b. list_any (item_eq x) names || (b || false)) (sym other)
    ∙ sym (list_any-append (item_eq x) names (y ∷ []))

pub text_more : (old new : Seen) (t : Bor (List ℕ)) (names : List Item)
    → Updates (λ x y. slice_cmp nat_cmp x.now y.now) old.texts new.texts t true → new.numbers ≡ old.numbers
    → HoldsNames old names → HoldsNames new (names ++ text_string t.now ∷ [])
text_more old new t names updates same held = record {
  numbers = λ z. ap (λ (ns : BTreeSet ℤ). contains int_cmp ns z) same
      ∙ beside_name (number z) (text_string t.now) names (contains int_cmp old.numbers z) refl (held.numbers z);
  texts = λ s.
      let before = contains_by (λ k. slice_cmp nat_cmp s k.now) old.texts in
      updates.0 (record { ref_ptr = (0, 0); now = s })
      ∙ ap (λ b. cond b true before) (is_eq-slice_cmp t.now s)
      ∙ with_name (text_string s) (text_string t.now) names before (held.texts s);
}

pub has_label-labels_of : (ms : Members) (label : Item)
    → list_any (item_eq label) (labels_of ms) ≡ has_label ms label
has_label-labels_of [] label = refl
has_label-labels_of (m ∷ ms) label = ap (λ b. item_eq label m.0 || b) (has_label-labels_of ms label)

pub not_new : (is_new held : Bool) → is_new ≡ not held → not is_new ≡ held
not_new is_new true e = ap not e
not_new is_new false e = ap not e
