-- JSON values as data items, by the shape of a type.
use Rattle.std.proofs.Common.{◌≡◌, ◌∙◌, ℕ, ◌+◌, ◌==◌, true, false, List, [], ◌∷◌, ◌++◌, map, Option, Some, None, is_some, Result, refl, sym, ap, subst, if◌then◌else◌}
use Rattle.json.specs.Json.{Json}
use Rattle.json.specs.Json as json
use Rattle.passkey_cbor.specs.Item.{Item}
use Rattle.passkey_cbor.specs.View.{item_of}
use Rattle.passkey_cbor.specs.declared.value.Value.{Value as CodeItem}
use Rattle.passkey_cbor_text.proofs.Gathering.{reads_as}
use Rattle.passkey_cbor_text.specs.declared.values.leaf.StringForm.TheVariants.{Text}
use Rattle.passkey_cbor_text.specs.declared.values.no_item.ItemFault.{ItemFault}
use Rattle.passkey_cbor_text.specs.values.JsonItem.{array_of, leaf_item, map_of}
use Rattle.passkey_cbor_text.specs.values.NoItem.{Read, Reads, read_map}
use Rattle.passkey_explain.proofs.Blames.{bare, is_list, is_map, is_record, named_there, parts_like, reached_further, some_same}
use Rattle.passkey_kinds.specs.Look.{HasForm}
use Rattle.passkey_kinds.specs.Record.{Naming, row}
use Rattle.passkey_kinds.specs.Shape.{Entry, Shape, record_of, Rows, no_rows, Tested, reached, row_in}
use Rattle.passkey_kinds.specs.Shape as shape
use Rattle.passkey_kinds.specs.declared.look.Form.TheVariants as form
use Rattle.passkey_kinds.specs.declared.wanted.Wanted.{Wanted}
use Rattle.passkey_render.specs.Parts.{elements_of, members_of, Named, read_each}
use Rattle.passkey_render.specs.Typed.{HasKeys, IsTableAt, Keys, rows, json_item, keys_of, member_item, named_by, row_item, table_item, value_item, wanted_item}
use Rattle.passkey_render.specs.declared.typed.Keys.{Keys as CodeKeys}
use Rattle.passkey_render.specs.declared.typed.Keys.TheVariants as code
use Rattle.passkey_render.proofs.Parts.{no_parts, parts_there}

-- ---- shapes

there_is : {X : Type 0} (o : Option X) → is_some o ≡ true → (x : X) × (o ≡ Some x)
there_is (Some x) e = (x, refl)
there_is None e = absurd cc

by_bare : (s : Shape) (j : Json) → json_item s j ≡ json_item (bare s) j
by_bare (shape.tolerant a s) j = by_bare s j
by_bare _ j = refl

item_like : (s : Shape) {x : Shape} → bare s ≡ x → (j : Json) → json_item s j ≡ json_item x j
item_like s is j = by_bare s j ∙ ap (λ (y : Shape). json_item y j) is

pub leaf_read : (s : Shape) (w : Wanted) → HasForm s (form.Leaf w) → (j : Json) → wanted_item w j ≡ json_item s j
leaf_read (shape.leaf v) w h j = ap (λ (x : Wanted). wanted_item x j) h
leaf_read (shape.list a x) w h j = absurd h
leaf_read (shape.map a x) w h j = absurd h
leaf_read (record_of b rs) w h j = absurd h
leaf_read (shape.tolerant a x) w h j = leaf_read x w h j

pub list_read : (t : Tested) (j : Json) (js : List Json) (way inner : List ℕ) (root : Tested) → reached way root ≡ Some t
    → inner ≡ way ++ 0 ∷ [] → elements_of j ≡ Some js → HasForm t.shape form.List
    → (u : Tested) × ((reached inner root ≡ Some u)
    × (read_map array_of (read_each (λ _. json_item u.shape) [] 0 js) ≡ json_item t.shape j))
list_read t j js way inner root at longer is h =
    let l = is_list t.shape h in
    let u : Tested = record { accepts = l.0; shape = l.1 } in
    let there : reached inner root ≡ Some u =
    ap (λ (w : List ℕ). reached w root) longer ∙ reached_further way 0 root t at ∙ parts_like t.shape l.2 0 in
    (u, (there, sym (item_like t.shape l.2 j ∙ parts_there (elements_of j) js _ _ is)))

pub no_list_read : (t : Tested) (j : Json) → HasForm t.shape form.List → elements_of j ≡ None
    → leaf_item Text j ≡ json_item t.shape j
no_list_read t j h none =
    let l = is_list t.shape h in sym (item_like t.shape l.2 j ∙ no_parts (elements_of j) _ _ none)

by_row : (rs : Rows) (n : ℕ) (u : Tested) (j : Json) → row_in rs n ≡ Some u → row_item rs n j ≡ json_item u.shape j
by_row no_rows n u j = λ e. absurd cc
by_row (shape.row e a s rs) n u j = elim (e.number == n)
    as (λ b. (if b then Some (record { accepts = a; shape = s }) else row_in rs n) ≡ Some u
    → (if b then json_item s j else row_item rs n j) ≡ json_item u.shape j) [
      | true ↦ λ h. (let same : record { accepts = a; shape = s } ≡ u = some_same h in
          ap (λ (t : Tested). json_item t.shape j) same)
      | false ↦ by_row rs n u j
    ]

-- The shape is that of a map or a record with these keys, whose values are read so.
pub record IsTable (t : Tested) (keys : CodeKeys) : Type 0 where
  pub of : ℕ → Json → Read Item
  pub read : (j : Json) → json_item t.shape j ≡ table_item (keys_of keys) of j
  pub there : (way : List ℕ) (root : Tested) → reached way root ≡ Some t → IsTableAt way root (keys_of keys) of

pub table_shape : (t : Tested) (keys : CodeKeys) → HasKeys t.shape keys → IsTable t keys
table_shape t code.ByteStrings h =
    let l = is_map t.shape h in
    let u : Tested = record { accepts = l.0; shape = l.1 } in
    record {
      of = λ n. json_item l.1;
      read = λ j. item_like t.shape l.2 j;
      there = λ way root at. record {
        value_at = λ label n e. record {
          type_there = u;
          reaches = reached_further way n root t at ∙ parts_like t.shape l.2 n;
          same = λ j. refl;
        };
      };
    }
table_shape t (code.Rows b rs) h =
    let l = is_record t.shape b rs h in
    record {
      of = row_item l.0;
      read = λ j. item_like t.shape l.1 j ∙ ap (λ (es : List Entry). table_item (rows b es) (row_item l.0) j) (sym l.2);
      there = λ way root at. record {
        value_at = λ label n e. (
            let found = there_is (row_in l.0 n) (named_there b l.0 n label
            (subst (λ (es : List Entry). named_by (rows b es) label ≡ row n) l.2 e)) in
            record {
              type_there = found.0;
              reaches = reached_further way n root t at ∙ parts_like t.shape l.1 n ∙ found.1;
              same = λ j. by_row l.0 n found.0 j found.1;
            });
      };
    }

pub members_read : (t : Tested) (keys : CodeKeys) (s : IsTable t keys) (j : Json) (ms : List Named) → members_of j ≡ Some ms
    → read_map map_of (read_each (λ _. member_item (keys_of keys) s.of) [] 0 ms) ≡ json_item t.shape j
members_read t keys s j ms is = sym (s.read j ∙ parts_there (members_of j) ms _ _ is)

-- the value of a member that names a row
pub row_read : {way : List ℕ} {root : Tested} {ks : Keys} {of : ℕ → Json → Read Item} (h : IsTableAt way root ks of)
    (n : ℕ) (label : Item) (inner : List ℕ) (j : Json) (r : Result CodeItem ItemFault) → named_by ks label ≡ row n
    → inner ≡ way ++ n ∷ []
    → ((t : Tested) → reached inner root ≡ Some t → Reads item_of (json_item t.shape j) r)
    → Reads item_of (value_item of (named_by ks label) j) r
row_read {root = root} {ks = ks} {of = of} h n label inner j r naming is read =
    let found = h.value_at label n naming in
    reads_as item_of _ _ r (sym (ap (λ (w : Naming). value_item of w j) naming ∙ found.same j))
    (read found.type_there (ap (λ (w : List ℕ). reached w root) is ∙ found.reaches))

pub no_members_read : (t : Tested) (keys : CodeKeys) → HasKeys t.shape keys → (j : Json) → members_of j ≡ None
    → leaf_item Text j ≡ json_item t.shape j
no_members_read t keys h j none =
    let s = table_shape t keys h in sym (s.read j ∙ no_parts (members_of j) _ _ none)
