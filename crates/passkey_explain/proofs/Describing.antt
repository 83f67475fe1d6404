-- Describing a data item, part by part.
use Rattle.passkey_kinds.proofs.Common.{elements-items_of, members-pairs_of, Item, Members, array, pairs_of, items_of, entry_of, elements_in, members_in, names, ◌≡◌, ◌∙◌, ◌==◌, ℕ, Bool, true, false, List, [], ◌∷◌, ◌++◌, map, Some, None, refl, sym, ap, length, ◌≤◌, pair_of, subst, if◌then◌else◌, Result, row, rules}
use Rattle.std.proofs.Common.{Bor, Global, IfOk, Vec, take}
use Rattle.std.proofs.lemmas.List.{take_all}
use Rattle.passkey_memory.specs.declared.OutOfMemory.{OutOfMemory}
use Rattle.passkey_cbor.specs.declared.value.Value.{Value, Array, Map, Array', Map', out-Value, the_lemmas as the_value_lemmas}
use Rattle.passkey_cbor.specs.declared.value.Value.TheOpen.{Value-F}
use Rattle.passkey_explain.proofs.Blames.{row_reached, bare, parts_like, is_list, is_map, is_record, reached_further, some_same}
use Rattle.passkey_explain.specs.Described.{Described, Part, leaf, parts, parts_from, list, map_of, record_of_members, element, key, member, labelled, label_of, described, described_row, described_of, describe_list, describe_map, describe_record, describe_member}
use Rattle.passkey_explain.specs.Blaming.{name_at}
use Rattle.passkey_explain.specs.Next.{IsRecordAt}
use Rattle.passkey_explain.specs.declared.description.Description.{Description, List as OfList, Map as OfMap, Record as OfRecord, the_lemmas}
use Rattle.passkey_explain.specs.declared.description.FieldName.{FieldName}
use Rattle.passkey_kinds.specs.Look.{HasForm}
use Rattle.passkey_kinds.specs.Shape.{Entry, Shape, record_of, Rows, no_rows, Tested, reached, part_of, row_in, entries_in}
use Rattle.passkey_kinds.specs.Words.{item_of}
use Rattle.passkey_kinds.specs.declared.rows.Row.{Row}
use Rattle.passkey_kinds.specs.declared.wanted.Wanted.{Wanted}
use Rattle.passkey_cbor.specs.Item as item
use Rattle.passkey_kinds.specs.Shape as shape
use Rattle.passkey_kinds.specs.declared.look.Form.TheVariants as form
use Rattle.passkey_kinds.specs.declared.wanted.Wanted.TheVariants as wanted

-- ---- the code's descriptions

pub described_of-List : (v : Vec Description Global) → described_of (OfList v)
    ≡ parts list (parts_from (map (λ d. labelled element d) (map described_of v.items)))
described_of-List v = search (rules, the_lemmas)

abbrev pair_with : {X Y Z : Type 0} → (Y → Z) → X × Y → X × Z
pair_with f p = (p.0, f p.1)

described_map_parts : (v : Vec (Value × Description) Global) → described_of (OfMap v) ≡ parts map_of
    (parts_from (map (λ p. labelled (key (item_of p.0)) p.1) (map (λ p. pair_with described_of p) v.items)))
described_map_parts v = search (rules, the_lemmas)

described_record_parts : (v : Vec (FieldName × Description) Global) → described_of (OfRecord v) ≡ parts record_of_members
    (parts_from (map (λ p. labelled (label_of p.0) p.1) (map (λ p. pair_with described_of p) v.items)))
described_record_parts v = search (rules, the_lemmas)

fused : {X Y : Type 0} (f : X × Described → Y) (ps : List (X × Description))
    → map f (map (λ p. pair_with described_of p) ps) ≡ map (λ p. f (pair_with described_of p)) ps
fused f [] = refl
fused {X} {Y} f (p ∷ ps) = ap (λ (ys : List Y). f (pair_with described_of p) ∷ ys) (fused f ps)

pub described_of-Map : (v : Vec (Value × Description) Global) → described_of (OfMap v)
    ≡ parts map_of (parts_from (map (λ p. labelled (key (item_of p.0)) (described_of p.1)) v.items))
described_of-Map v =
    described_map_parts v
    ∙ ap (λ (ps : List Part). parts map_of (parts_from ps)) (fused (λ p. labelled (key (item_of p.0)) p.1) v.items)

pub described_of-Record : (v : Vec (FieldName × Description) Global) → described_of (OfRecord v)
    ≡ parts record_of_members (parts_from (map (λ p. labelled (label_of p.0) (described_of p.1)) v.items))
described_of-Record v =
    described_record_parts v
    ∙ ap (λ (ps : List Part). parts record_of_members (parts_from ps)) (fused (λ p. labelled (label_of p.0) p.1) v.items)

-- ---- the shape of what is kept, where any item is tolerated

described_by_bare : (s : Shape) (i : Item) → described s i ≡ described (bare s) i
described_by_bare (shape.tolerant a s) i = described_by_bare s i
described_by_bare _ i = refl

described_like : (s : Shape) {x : Shape} → bare s ≡ x → (i : Item) → described s i ≡ described x i
described_like s is i = described_by_bare s i ∙ ap (λ (y : Shape). described y i) is

pub leaf_described : (s : Shape) (w : Wanted) → HasForm s (form.Leaf w) → (i : Item) → described s i ≡ leaf w i
leaf_described (shape.leaf v) w h i = ap (λ (x : Wanted). leaf x i) (sym h)
leaf_described (shape.list a x) w h i = absurd h
leaf_described (shape.map a x) w h i = absurd h
leaf_described (record_of b rows) w h i = absurd h
leaf_described (shape.tolerant a x) w h i = leaf_described x w h i

-- ---- lists and maps

element_parts : (of : Item → Described) (xs : List Item)
    → map (λ d. labelled element d) (map of xs) ≡ map (λ x. labelled element (of x)) xs
element_parts of [] = refl
element_parts of (x ∷ xs) = ap (λ (ps : List Part). labelled element (of x) ∷ ps) (element_parts of xs)

pub list_described : (t : Tested) (i : Item) (xs : List Item) (v : Vec Description Global) (way inner : List ℕ)
    (root : Tested) → reached way root ≡ Some t → inner ≡ way ++ 0 ∷ [] → i ≡ array (items_of xs)
    → HasForm t.shape form.List
    → ((u : Tested) → reached inner root ≡ Some u → map described_of v.items ≡ map (described u.shape) xs)
    → described_of (OfList v) ≡ described t.shape i
unfolding describe_list
list_described t i xs v way inner root at further is h told =
    let l = is_list t.shape h in
    let u : Tested = record { accepts = l.0; shape = l.1 } in
    let there : reached inner root ≡ Some u =
    ap (λ (w : List ℕ). reached w root) further ∙ reached_further way 0 root t at ∙ parts_like t.shape l.2 0 in
    let same = ap (λ (ds : List Described). map (λ d. labelled element d) ds) (told u there)
    ∙ element_parts (described l.1) xs
    ∙ ap (λ (ys : List Item). map (λ x. labelled element (described l.1 x)) ys) (sym (elements-items_of xs)) in
    described_of-List v ∙ ap (λ (ps : List Part). parts list (parts_from ps)) same
    ∙ sym (described_like t.shape l.2 i ∙ ap (describe_list (described l.1)) is)

pub no_list_described : (t : Tested) (i : Item) → HasForm t.shape form.List → elements_in i ≡ None
    → described t.shape i ≡ leaf wanted.Array i
unfolding describe_list
no_list_described t i h e =
    let l = is_list t.shape h in described_like t.shape l.2 i ∙ without (described l.1) i e where
      without : (of : Item → Described) (i : Item) → elements_in i ≡ None → describe_list of i ≡ leaf wanted.Array i
      without of (array is) e = absurd cc
      without of _ e = refl

pub map_described : (t : Tested) (i : Item) (ms : Members) (v : Vec (Value × Description) Global) (way inner : List ℕ)
    (root : Tested) → reached way root ≡ Some t → inner ≡ way ++ 0 ∷ [] → i ≡ item.map (pairs_of ms)
    → HasForm t.shape form.Map
    → ((u : Tested) → reached inner root ≡ Some u
    → map (λ p. labelled (key (item_of p.0)) (described_of p.1)) v.items
    ≡ map (λ m. labelled (key m.0) (described u.shape m.1)) ms)
    → described_of (OfMap v) ≡ described t.shape i
unfolding describe_map
map_described t i ms v way inner root at further is h told =
    let l = is_map t.shape h in
    let u : Tested = record { accepts = l.0; shape = l.1 } in
    let there : reached inner root ≡ Some u =
    ap (λ (w : List ℕ). reached w root) further ∙ reached_further way 0 root t at ∙ parts_like t.shape l.2 0 in
    let same = told u there
    ∙ ap (λ (ns : Members). map (λ m. labelled (key m.0) (described l.1 m.1)) ns) (sym (members-pairs_of ms)) in
    described_of-Map v ∙ ap (λ (ps : List Part). parts map_of (parts_from ps)) same
    ∙ sym (described_like t.shape l.2 i ∙ ap (describe_map (described l.1)) is)

pub no_map_described : (t : Tested) (i : Item) → HasForm t.shape form.Map → members_in i ≡ None
    → described t.shape i ≡ leaf wanted.Map i
unfolding describe_map
no_map_described t i h e =
    let l = is_map t.shape h in described_like t.shape l.2 i ∙ without (described l.1) i e where
      without : (of : Item → Described) (i : Item) → members_in i ≡ None → describe_map of i ≡ leaf wanted.Map i
      without of (item.map ps) e = absurd cc
      without of _ e = refl

pub described_as : (r : Result Description OutOfMemory) (x y : Described) → y ≡ x
    → IfOk r (λ d. described_of d ≡ x) → IfOk r (λ d. described_of d ≡ y)
described_as r x y e h = subst (λ (z : Described). IfOk r (λ d. described_of d ≡ z)) (sym e) h

-- a value that isn't an array, or a map
rolled-Array : (v : Value) (x : Vec Value Global) → out-Value v ≡ Value-F.Array x → v ≡ Array x
rolled-Array v x e = search (rules, the_value_lemmas, e)

rolled-Map : (v : Value) (x : Vec (Value × Value) Global) → out-Value v ≡ Value-F.Map x → v ≡ Map x
rolled-Map v x e = search (rules, the_value_lemmas, e)

array_rolled : (v : Value) → ((x : Vec Value Global) → v ≡ Array x → ⊥) → (f : Value-F Value) → out-Value v ≡ f
    → elements_in (item_of v) ≡ None
array_rolled v h (Value-F.Array x) e = absurd (h x (rolled-Array v x e))
array_rolled v h _ e = search (rules, the_value_lemmas, e)

pub no_array : (v : Value) → ((x : Vec Value Global) → v ≡ Array x → ⊥) → elements_in (item_of v) ≡ None
no_array (Array' m all) h = array_rolled (Array' m all) h (out-Value (Array' m all)) refl
no_array _ h = search (rules, the_value_lemmas)

map_rolled : (v : Value) → ((x : Vec (Value × Value) Global) → v ≡ Map x → ⊥) → (f : Value-F Value) → out-Value v ≡ f
    → members_in (item_of v) ≡ None
map_rolled v h (Value-F.Map x) e = absurd (h x (rolled-Map v x e))
map_rolled v h _ e = search (rules, the_value_lemmas, e)

pub not_a_map : (v : Value) → ((x : Vec (Value × Value) Global) → v ≡ Map x → ⊥) → members_in (item_of v) ≡ None
not_a_map (Map' m all) h = map_rolled (Map' m all) h (out-Value (Map' m all)) refl
not_a_map _ h = search (rules, the_value_lemmas)

-- ---- records

pub described_by_row : (rs : Rows) (n : ℕ) (u : Tested) (i : Item) → row_in rs n ≡ Some u
    → described_row rs n i ≡ described u.shape i
described_by_row no_rows n u i = λ e. absurd cc
described_by_row (shape.row e a s rs) n u i = elim (e.number == n)
    as (λ b. (if b then Some (record { accepts = a; shape = s }) else row_in rs n) ≡ Some u
    → (if b then described s i else described_row rs n i) ≡ described u.shape i) [
      | true ↦ λ h. ap (λ (t : Tested). described t.shape i) (some_same h)
      | false ↦ described_by_row rs n u i
    ]

pub record_described : (t : Tested) (b : Bool) (rs : Bor (List Row)) (i : Item) (ms : Members)
    (v : Vec (FieldName × Description) Global) (way : List ℕ) (root : Tested) → reached way root ≡ Some t
    → i ≡ item.map (pairs_of ms) → HasForm t.shape (form.Record b rs)
    → ((rows : Rows) → IsRecordAt way root rows b (map entry_of rs.now)
    → map (λ p. labelled (label_of p.0) (described_of p.1)) v.items
    ≡ map (λ m. describe_member (map entry_of rs.now) (described_row rows) (names b (map entry_of rs.now) m.0) m.0 m.1) ms)
    → described_of (OfRecord v) ≡ described t.shape i
unfolding describe_record
record_described t b rs i ms v way root at is h told =
    let l = is_record t.shape b rs h in
    let there : IsRecordAt way root l.0 b (map entry_of rs.now) =
    record { at = t; reaches = at; parts = parts_like t.shape l.1; same = l.2 } in
    let parts_are : List Entry → Members → List Part =
    λ es ns. map (λ m. describe_member es (described_row l.0) (names b es m.0) m.0 m.1) ns in
    let same = told l.0 there ∙ ap (λ (es : List Entry). parts_are es ms) l.2
    ∙ ap (parts_are (entries_in l.0)) (sym (members-pairs_of ms)) in
    described_of-Record v ∙ ap (λ (ps : List Part). parts record_of_members (parts_from ps)) same
    ∙ sym (described_like t.shape l.1 i
    ∙ ap (describe_record b (entries_in l.0) (described_row l.0)) is)

pub no_record_described : (t : Tested) (b : Bool) (rs : Bor (List Row)) (i : Item) → HasForm t.shape (form.Record b rs)
    → members_in i ≡ None → described t.shape i ≡ leaf wanted.Map i
unfolding describe_record
no_record_described t b rs i h e =
    let l = is_record t.shape b rs h in
    described_like t.shape l.1 i ∙ without (entries_in l.0) (described_row l.0) i e where
      without : (es : List Entry) (of : ℕ → Item → Described) (i : Item) → members_in i ≡ None
          → describe_record b es of i ≡ leaf wanted.Map i
      without es of (item.map ps) e = absurd cc
      without es of _ e = refl

-- a member that the record's table has
pub field_described : {way : List ℕ} {root : Tested} {rs : Rows} {is_numbered : Bool} {es : List Entry}
    (h : IsRecordAt way root rs is_numbered es) (n : ℕ) (label i : Item) (naming : names is_numbered es label ≡ row n)
    (inner name : List ℕ) (d : Description) → inner ≡ way ++ n ∷ [] → name ≡ name_at es n
    → ((t : Tested) → reached inner root ≡ Some t → described_of d ≡ described t.shape i)
    → labelled (member n name) (described_of d)
    ≡ describe_member es (described_row rs) (names is_numbered es label) label i
field_described {rs = rs} {is_numbered} {es} h n label i naming inner name d is named told =
    let u = row_reached h n label naming inner is in
    let e = told u.0 u.1.1 ∙ sym (described_by_row rs n u.0 i u.1.0) in
    rw naming (λ j. labelled (member n (named j)) (e j))

-- all members are described
pub fields_done : (es : List Entry) (b : Bool) (k : ℕ) (of : ℕ → Item → Described) (all : List (FieldName × Description))
    (pairs : List (Value × Value)) → length pairs ≤ k → map (λ p. labelled (label_of p.0) (described_of p.1)) all
    ≡ map (λ m. describe_member es of (names b es m.0) m.0 m.1) (map pair_of (take k pairs))
    → map (λ p. labelled (label_of p.0) (described_of p.1)) all
    ≡ map (λ m. describe_member es of (names b es m.0) m.0 m.1) (map pair_of pairs)
fields_done es b k of all pairs past e =
    e ∙ ap (λ (ps : List (Value × Value)). map (λ m. describe_member es of (names b es m.0) m.0 m.1) (map pair_of ps))
    (take_all k pairs past)
