-- Elements and members, one after the other.
use Rattle.std.proofs.Common.{Bor, Global, Vec, ◌≡◌, ◌∙◌, ℕ, suc, ◌+◌, add-one, arith, Bool, true, false, IsOk, length, List, [], ◌∷◌, ◌++◌, map, Option, Some, None, Ok, Err, refl, rules, sym, ap, subst}
use Rattle.json.proofs.Trees.{view-Object}
use Rattle.json.specs.Json.{Json, object}
use Rattle.json.specs.Value.{items_of, members_of, members_view, value_view}
use Rattle.json.specs.declared.value.Value.{Value, Object}
use Rattle.passkey_cbor.specs.Item.{Item}
use Rattle.passkey_cbor_text.specs.declared.values.leaf.StringForm.{StringForm}
use Rattle.passkey_cbor_text.specs.declared.values.leaf.StringForm.TheVariants.{Text}
use Rattle.passkey_cbor_text.specs.declared.values.no_item.ItemFault.{ItemFault}
use Rattle.passkey_cbor_text.specs.declared.values.no_item.ItemFault.TheVariants as fault
use Rattle.passkey_cbor_text.specs.declared.values.no_item.ItemReason.{ItemReason}
use Rattle.passkey_cbor_text.specs.values.JsonItem.{elements_item, escape_in, leaf_item, member_of, members_item, object_item, placed}
use Rattle.passkey_cbor_text.specs.values.Keys.{any_key}
use Rattle.std.specs.Str.{bytes_eq}
use Rattle.passkey_cbor_text.specs.values.NoItem.{FailsAs, FailsHere, IsUnder, here, Read, Reads, at, then_with}
use Rattle.passkey_cbor_text.specs.values.Ordered.{Member}
use Rattle.passkey_cbor_text.specs.values.Registries.{Row, named_in}
use Rattle.std.proofs.Common.{Result}

-- what isn't made of a part isn't made of the whole
pub fails_under : {A B : Type 0} (n : ℕ) (o : Read A) (f : A → Read B) (e u : ItemFault) → FailsAs o e → IsUnder n e u
    → FailsAs (then_with f (at n o)) u
fails_under n o f (fault.NoItem e) (fault.NoItem u) none is = rw none (ap Err (sym is))
fails_under n o f (fault.NoItem e) fault.OutOfMemory none is = tt
fails_under n o f fault.OutOfMemory (fault.NoItem u) none is = absurd is
fails_under n o f fault.OutOfMemory fault.OutOfMemory none is = tt

pub fails_as : {A : Type 0} (o p : Read A) (e : ItemFault) → o ≡ p → FailsAs o e → FailsAs p e
fails_as {A} o p e same h = subst (λ (w : Read A). FailsAs w e) same h

pub reads_as : {A B : Type 0} (view : A → B) (o p : Read B) (r : Result A ItemFault) → o ≡ p → Reads view o r
    → Reads view p r
reads_as {B = B} view o p r same h = subst (λ (w : Read B). Reads view w r) same h

pub fails_here : {A : Type 0} (reason : ItemReason) (wanted : Read A) (e : ItemFault) → wanted ≡ Err (here reason)
    → FailsHere reason e → FailsAs wanted e
fails_here reason wanted (fault.NoItem e) none is = none ∙ ap Err (sym is)
fails_here reason wanted fault.OutOfMemory none is = tt

-- ---- elements

module _ (before : List Item) (n : ℕ) (j : Json) (rest more : List Json) (is : rest ≡ j ∷ more) where
  pub element_stops : (whole : Read (List Item)) (e u : ItemFault) → elements_item before n (items_of rest) ≡ whole
      → FailsAs (leaf_item Text j) e → IsUnder n e u → FailsAs whole u
  element_stops whole e u so none under =
      fails_as _ whole u (sym (ap (λ (js : List Json). elements_item before n (items_of js)) is) ∙ so)
      (fails_under n (leaf_item Text j) _ e u none under)

  pub element_goes : (new : List Item) (i : Item) → leaf_item Text j ≡ Ok i → new ≡ before ++ i ∷ []
      → elements_item new (n + 1) (items_of more) ≡ elements_item before n (items_of rest)
  element_goes new i has grown = rw (is, has, grown, add-one n) refl

-- ---- members

abbrev pub Named : Type 0
Named = Bor (List ℕ) × Json

abbrev pub member_view : Bor (List ℕ) × Value Global → Named
member_view m = (m.0, value_view m.1)

abbrev pub read_member : Named → Read Member
read_member m = member_of (any_key m.0.now) (leaf_item Text m.1)

module _ (before : List Member) (n : ℕ) (m : Named) (rest more : List Named) (is : rest ≡ m ∷ more) where
  pub member_stops : (whole : Read (List Member)) (e u : ItemFault) → members_item before n (members_of rest) ≡ whole
      → FailsAs (placed before (read_member m)) e → IsUnder n e u → FailsAs whole u
  member_stops whole e u so none under =
      fails_as _ whole u (sym (ap (λ (ms : List Named). members_item before n (members_of ms)) is) ∙ so)
      (fails_under n (placed before (read_member m)) _ e u none under)

  pub member_goes : (new : List Member) → placed before (read_member m) ≡ Ok new
      → members_item new (n + 1) (members_of more) ≡ members_item before n (members_of rest)
  member_goes new has = rw (is, has, add-one n) refl

-- ---- objects

pub object_there : (f : StringForm) (v : Value Global) (a : Vec (Bor (List ℕ) × Value Global) Global)
    (ms : List (Bor (List ℕ) × Value Global)) → v ≡ Object a → ms ≡ a.items
    → object_item (members_view ms) ≡ leaf_item f (value_view v)
object_there f v a ms is same =
    sym (ap (leaf_item f) (ap value_view is ∙ view-Object a
    ∙ ap (λ (ns : List (Bor (List ℕ) × Value Global)). object (members_view ns)) (sym same)))

pub not_alone : (ms : List (Bor (List ℕ) × Value Global)) → (length ms ≡ 1 → ⊥) → None ≡ escape_in (members_view ms)
not_alone [] h = refl
not_alone (m ∷ []) h = absurd (h (omega arith))
not_alone (m ∷ n ∷ ms) h = refl

-- ---- names

module _ {T : Type 0} (name : List ℕ) (row : Row T) (rest more : List (Row T)) (whole : Option T) (at : rest ≡ row ∷ more)
    (so : named_in name rest ≡ whole) where
  pub name_found : bytes_eq row.0 name ≡ true → Some row.1 ≡ whole
  name_found same = rw (at, same) at so

  pub name_passed : bytes_eq row.0 name ≡ false → named_in name more ≡ whole
  name_passed other = rw (at, other) at so

-- ---- UUIDs

no_ok : {U E : Type 0} (r : Result U E) (e : E) → r ≡ Err e → IsOk r → ⊥
no_ok (Ok u) e is ok = cc
no_ok (Err f) e is ok = search rules

pub not_parsed : {A U E : Type 0} (o : Option A) (r : Result U E) (e : E) → ((u : A) × (o ≡ Some u) → IsOk r) → r ≡ Err e
    → o ≡ None
not_parsed (Some u) r e h is = absurd (no_ok r e is (h (u, refl)))
not_parsed None r e h is = refl
