-- Elements and members of JSON values, one after the other.
use Rattle.std.proofs.Common.{Bor, Global, Vec, ◌≡◌, ◌∙◌, ℕ, ◌+◌, add-one, Bool, true, false, List, [], ◌∷◌, ◌++◌, map, Option, Some, None, is_some, Ok, refl, rules, sym, ap}
use Rattle.json.proofs.Trees.{view-Array, view-Object}
use Rattle.json.specs.Json.{Json}
use Rattle.json.specs.Json as json
use Rattle.json.specs.Value.{items_of, items_view, members_view, value_view}
use Rattle.json.specs.declared.value.Value.{Value, Array, Object, the_lemmas}
use Rattle.passkey_cbor_text.proofs.Gathering.{fails_as, fails_under}
use Rattle.passkey_cbor_text.specs.declared.values.no_item.ItemFault.{ItemFault}
use Rattle.passkey_cbor_text.specs.values.JsonItem.{escape_in}
use Rattle.passkey_cbor_text.specs.values.NoItem.{FailsAs, IsUnder, Read}
use Rattle.passkey_kinds.specs.Shape as shape
use Rattle.passkey_kinds.specs.declared.look.Form.TheVariants as form
use Rattle.passkey_render.specs.Parts.{elements_of, items_in, members_in, members_of, named_in, Named, of_parts, read_all, read_each, unless}
use Rattle.passkey_render.specs.declared.typed.Keys.TheVariants as code

-- ---- one after the other

module _ {A B : Type 0} (of : List B → A → Read B) (before : List B) (n : ℕ) (x : A) (rest more : List A)
    (is : rest ≡ x ∷ more) where
  pub each_stops : (whole : Read (List B)) (e u : ItemFault) → read_each of before n rest ≡ whole → FailsAs (of before x) e
      → IsUnder n e u → FailsAs whole u
  each_stops whole e u so none under =
      fails_as _ whole u (sym (ap (λ (xs : List A). read_each of before n xs) is) ∙ so)
      (fails_under n (of before x) _ e u none under)

  pub each_goes : (new : List B) (y : B) → of before x ≡ Ok y → new ≡ before ++ y ∷ []
      → read_each of new (n + 1) more ≡ read_each of before n rest
  each_goes new y has grown = rw (is, has, grown, add-one n) refl

module _ {A B : Type 0} (of : B → A → Read B) (before : B) (n : ℕ) (x : A) (rest more : List A) (is : rest ≡ x ∷ more) where
  pub all_stops : (whole : Read B) (e u : ItemFault) → read_all of before n rest ≡ whole → FailsAs (of before x) e
      → IsUnder n e u → FailsAs whole u
  all_stops whole e u so none under = fails_as _ whole u (sym (ap (λ (xs : List A). read_all of before n xs) is) ∙ so)
      (fails_under n (of before x) _ e u none under)

  pub all_goes : (after : B) → of before x ≡ Ok after → read_all of after (n + 1) more ≡ read_all of before n rest
  all_goes after has = rw (is, has, add-one n) refl

-- ---- looking at JSON values

pub items_again : (js : List Json) → items_in (items_of js) ≡ js
items_again [] = refl
items_again (j ∷ js) = ap (λ (is : List Json). j ∷ is) (items_again js)

pub array_seen : (v : Value Global) (a : Vec (Value Global) Global) (vs : List (Value Global)) → v ≡ Array a → vs ≡ a.items
    → elements_of (value_view v) ≡ Some (map value_view vs)
array_seen v a vs is same =
    let whole : value_view v ≡ json.array (items_view vs) =
    ap value_view is ∙ view-Array a ∙ ap (λ (us : List (Value Global)). json.array (items_view us)) (sym same) in
    ap elements_of whole ∙ ap (λ (js : List Json). Some js) (items_again (map value_view vs))

pub no_elements : (v : Value Global) → ((a : Vec (Value Global) Global) → v ≡ Array a → ⊥) → elements_of (value_view v) ≡ None
no_elements v h = search (rules, the_lemmas, h)

pub no_members : (v : Value Global) → ((a : Vec (Bor (List ℕ) × Value Global) Global) → v ≡ Object a → ⊥)
    → members_of (value_view v) ≡ None
no_members v h = search (rules, the_lemmas, h)

pub members_again : (ms : List (Bor (List ℕ) × Value Global)) → members_in (members_view ms) ≡ map named_in ms
members_again [] = refl
members_again (m ∷ ms) = ap (λ (ns : List Named). named_in m ∷ ns) (members_again ms)

module _ (v : Value Global) (a : Vec (Bor (List ℕ) × Value Global) Global) (ms : List (Bor (List ℕ) × Value Global)) (b : Bool)
    (is : v ≡ Object a) (same : ms ≡ a.items) (seen : b ≡ is_some (escape_in (members_view ms))) where
  judged : members_of (value_view v) ≡ unless b (members_in (members_view ms))
  judged = ap members_of (ap value_view is ∙ view-Object a
      ∙ ap (λ (ns : List (Bor (List ℕ) × Value Global)). json.object (members_view ns)) (sym same))
      ∙ ap (λ (c : Bool). unless c (members_in (members_view ms))) (sym seen)

  pub escape_seen : b ≡ true → members_of (value_view v) ≡ None
  escape_seen e = judged ∙ ap (λ (c : Bool). unless c (members_in (members_view ms))) e

  pub object_seen : (ns : List (Bor (List ℕ) × Value Global)) → ns ≡ a.items → b ≡ false
      → members_of (value_view v) ≡ Some (map named_in ns)
  object_seen ns also e = judged ∙ ap (λ (c : Bool). unless c (members_in (members_view ms))) e
      ∙ ap (λ (ls : List Named). Some ls) (members_again ms)
      ∙ ap (λ (ls : List (Bor (List ℕ) × Value Global)). Some (map named_in ls)) (same ∙ sym also)

-- ---- of the parts, if there are any

pub parts_there : {A B : Type 0} (o : Option A) (x : A) (of : A → Read B) (other : Read B) → o ≡ Some x
    → of_parts o of other ≡ of x
parts_there o x of other e = rw e refl

pub no_parts : {A B : Type 0} (o : Option A) (of : A → Read B) (other : Read B) → o ≡ None → of_parts o of other ≡ other
no_parts o of other e = rw e refl
