-- Members of a map, as values and as data items.
use Rattle.passkey_cbor.proofs.items.Items.{members-pairs_of}
use Rattle.passkey_cbor.proofs.building.Views.{item_of-Map}
use Rattle.passkey_cbor.specs.Item.{Item, text_string}
use Rattle.passkey_cbor.specs.Same.{item_eq}
use Rattle.passkey_cbor.specs.View.{item_of, pair_of}
use Rattle.passkey_cbor.specs.declared.value.Value.{Value, Map}
use Rattle.passkey_repair.specs.messages.Edit.{Edits, EditsMembers, add, added, changed, edited_at, leave_out, left_out, map_of, no_member, place_of, value_at, with_edited, with_value, Change}
use Rattle.std.proofs.Common.{Bool, Global, List, None, Option, Some, Vec, [], ap, cond, drop, false, get_or, if◌then◌else◌, length, map, nat_lt, not, option_map, refl, set, suc, sym, take, true, ℕ, ◌+◌, ◌++◌, ◌<◌, ◌∙◌, ◌∷◌, ◌≡◌}
use Rattle.std.proofs.lemmas.List.{get_or-map, length-map, map-append, map-set, set-get_or}
use Rattle.std.specs.List.{drop-map, position, prefix_len, remove, take-map}
use Rattle.std.specs.Option.{option_and_then}

prefix_map : {X Y : Type 0} (seen : X → Y) (p : Y → Bool) (xs : List X)
    → prefix_len p (map seen xs) ≡ prefix_len (λ x. p (seen x)) xs
prefix_map seen p [] = refl
prefix_map seen p (x ∷ xs) = ap (λ (n : ℕ). cond (p (seen x)) (1 + n) 0) (prefix_map seen p xs)

pub position_map : {X Y : Type 0} (seen : X → Y) (p : Y → Bool) (xs : List X)
    → position p (map seen xs) ≡ position (λ x. p (seen x)) xs
position_map seen p xs = λ i. cond (nat_lt (prefix_map seen (λ y. not (p y)) xs i) (length-map xs seen i))
    (Some (prefix_map seen (λ y. not (p y)) xs i)) None

-- ---- the member at an index

member_map : (ps : List (Value × Value)) (n : ℕ) (p : Value × Value) → n < length ps → p ≡ get_or ps n p
    → get_or (map pair_of ps) n no_member ≡ pair_of p
member_map ps n p within is = get_or-map pair_of ps n p no_member within ∙ ap pair_of (sym is)

pub value_map : (ps : List (Value × Value)) (n : ℕ) (p : Value × Value) → n < length ps → p ≡ get_or ps n p
    → value_at (map pair_of ps) n ≡ item_of p.1
value_map ps n p within is = ap (λ (m : Item × Item). m.1) (member_map ps n p within is)

pub with_value_map : (ps : List (Value × Value)) (n : ℕ) (p : Value × Value) (v : Value) → n < length ps
    → p ≡ get_or ps n p → map pair_of (set ps n (p.0, v)) ≡ with_value (map pair_of ps) n (item_of v)
with_value_map ps n p v within is =
    map-set pair_of ps n (p.0, v)
    ∙ ap (λ (m : Item × Item). set (map pair_of ps) n (m.0, item_of v)) (sym (member_map ps n p within is))

pub remove_map : {X Y : Type 0} (seen : X → Y) (xs : List X) (n : ℕ) → map seen (remove xs n) ≡ remove (map seen xs) n
remove_map {Y = Y} seen xs n =
    map-append seen (take n xs) (drop (suc n) xs)
    ∙ (λ i. sym (take-map seen n xs) i ++ sym (drop-map seen (suc n) xs) i)

-- ---- what is left out, by the first member with the name and its value

module _ (name : List ℕ) (i : Item) (ps : List (Value × Value)) (n : ℕ) (p : Value × Value) (within : n < length ps)
    (is : p ≡ get_or ps n p) (found : Some n ≡ place_of (text_string name) (map pair_of ps)) where
  left_out_if : left_out name i (map pair_of ps)
      ≡ (if item_eq (item_of p.1) i then Some (remove (map pair_of ps) n) else None)
  left_out_if =
      ap (option_and_then (λ (k : ℕ). if item_eq (value_at (map pair_of ps) k) i
      then Some (remove (map pair_of ps) k) else None)) (sym found)
      ∙ ap (λ (v : Item). if item_eq v i then Some (remove (map pair_of ps) n) else None) (value_map ps n p within is)

  pub keeps : item_eq (item_of p.1) i ≡ false
      → EditsMembers (left_out name i (map pair_of ps)) (map pair_of ps) (map pair_of ps) false
  keeps differs =
      let none : left_out name i (map pair_of ps) ≡ None = left_out_if
      ∙ ap (λ (t : Bool). if t then Some (remove (map pair_of ps) n) else None) differs in
      rw none (record { fits = refl; leaves = refl })

  pub leaves : item_eq (item_of p.1) i ≡ true → (qs : List (Value × Value)) → qs ≡ remove ps n
      → EditsMembers (left_out name i (map pair_of ps)) (map pair_of ps) (map pair_of qs) true
  leaves same qs rest =
      let some : left_out name i (map pair_of ps) ≡ Some (remove (map pair_of ps) n) = left_out_if
      ∙ ap (λ (t : Bool). if t then Some (remove (map pair_of ps) n) else None) same in
      rw (some, rest, remove_map pair_of ps n) (record { fits = refl; leaves = refl })

-- ---- what is edited in the first member with the key

module _ (edit : Item → Option Item) (key : Item) (ps : List (Value × Value)) (n : ℕ) (p : Value × Value)
    (within : n < length ps) (is : p ≡ get_or ps n p) (found : Some n ≡ place_of key (map pair_of ps)) where
  abbrev ms : List (Item × Item)
  ms = map pair_of ps

  edited_if : with_edited edit key ms ≡ option_map (with_value ms n) (edit (item_of p.1))
  edited_if =
      ap (option_and_then (λ (k : ℕ). option_map (with_value ms k) (edit (value_at ms k)))) (sym found)
      ∙ ap (λ (v : Item). option_map (with_value ms n) (edit v)) (value_map ps n p within is)

  as_before : with_value ms n (item_of p.1) ≡ ms
  as_before = ap (with_value ms n) (sym (value_map ps n p within is)) ∙ set-get_or ms n no_member

  by_case : (o : Option Item) (j : Item) (made : Bool) → Edits o (item_of p.1) j made
      → Edits (option_map map_of (option_map (with_value ms n) o)) (map_of ms) (map_of (with_value ms n j)) made
  by_case None j made e = record { fits = e.fits; leaves = ap map_of (ap (with_value ms n) e.leaves ∙ as_before) }
  by_case (Some i) j made e = record { fits = e.fits; leaves = ap (λ (k : Item). map_of (with_value ms n k)) e.leaves }

  pub puts_back : (v : Value) (made : Bool) → Edits (edit (item_of p.1)) (item_of p.1) (item_of v) made
      → EditsMembers (with_edited edit key ms) ms (map pair_of (set ps n (p.0, v))) made
  puts_back v made e =
      rw (edited_if, with_value_map ps n p v within is) (by_case (edit (item_of p.1)) (item_of v) made e)

-- ---- changes of a map's members are changes of the map

pub adds : (name beside : List ℕ) (i : Item) (old new : Vec (Value × Value) Global) (made : Bool)
    → EditsMembers (added name beside i (map pair_of old.items)) (map pair_of old.items) (map pair_of new.items) made
    → Edits (changed (add name beside i) (item_of (Map old))) (item_of (Map old)) (item_of (Map new)) made
adds name beside i old new made e = rw (item_of-Map old, item_of-Map new, members-pairs_of (map pair_of old.items)) e

pub leaves_out : (name : List ℕ) (i : Item) (old new : Vec (Value × Value) Global) (made : Bool)
    → EditsMembers (left_out name i (map pair_of old.items)) (map pair_of old.items) (map pair_of new.items) made
    → Edits (changed (leave_out name i) (item_of (Map old))) (item_of (Map old)) (item_of (Map new)) made
leaves_out name i old new made e = rw (item_of-Map old, item_of-Map new, members-pairs_of (map pair_of old.items)) e

pub edits_member : (keys : List Item) (key : Item) (path : List Item) (change : Change)
    (old new : Vec (Value × Value) Global) (made : Bool) → keys ≡ key ∷ path
    → EditsMembers (with_edited (edited_at path change) key (map pair_of old.items)) (map pair_of old.items)
    (map pair_of new.items) made
    → Edits (edited_at keys change (item_of (Map old))) (item_of (Map old)) (item_of (Map new)) made
edits_member keys key path change old new made along e =
    rw (along, item_of-Map old, item_of-Map new, members-pairs_of (map pair_of old.items)) e
