-- What is left out of a JSON value is there, and refused.
use Rattle.std.proofs.Common.{◌≡◌, ℕ, suc, ◌+◌, zero-add, arith, Bool, true, false, if◌then◌else◌, List, [], ◌∷◌, ◌++◌, map, Option, Some, None, option_map, inl, inr, refl, sym}
use Rattle.passkey_json.specs.Along.{AreSound, HasMember, IsOnce, Sound, Strict, holds, value_along}
use Rattle.passkey_json.specs.Dropped.{AreDropped, Drops, LeftOut, Leaving, Told, dropped, dropped_elements, dropped_list, dropped_map, dropped_members, dropped_present, dropped_rows, told, under}
use Rattle.passkey_json.specs.Record.{rows_sound}
use Rattle.passkey_json.specs.Shape.{Entry, Shape, leaf, list, record_of, tolerant, Rows, no_rows, row, Step, named, element, Tested, other_present, own_present, part_at, present_in}
use Rattle.passkey_json.specs.Shape as shape
use Rattle.passkey_json.specs.Table.{PlainTable, table_shape}
use Rattle.passkey_json.specs.declared.dropped.DroppedValue.{DroppedValue}
use Rattle.serde_json.specs.Data.{Data, array, object, Items, no_items, item, Members, no_members, member}
use Rattle.serde_json.specs.Find.{at, get, get_item}
use Rattle.passkey_explain_json.proofs.Explained.{leads_of}
use Rattle.passkey_explain_json.specs.LeftOut.{AreLeftOut, EachLeftOut}

-- the value is there, and refused by what is kept
record IsThere (d : Data) (o : LeftOut) : Type 0 where
  leads : value_along o.path d ≡ Some o.value
  once : IsOnce o.value
  bad : o.kept.accepts o.value ≡ false
  strict : Strict o.kept.accepts o.kept.shape

abbrev AreThere : Data → List LeftOut → Type 0
AreThere d [] = Unit {0}
AreThere d (o ∷ os) = IsThere d o × AreThere d os

both_there : (d : Data) (os ps : List LeftOut) → AreThere d os → AreThere d ps → AreThere d (os ++ ps)
both_there d [] ps a b = b
both_there d (o ∷ os) ps a b = (a.0, both_there d os ps a.1 b)

-- as seen from the value around
part_there : (s : Step) (d x : Data) (os : List LeftOut) → part_at s d ≡ Some x → AreThere x os
    → AreThere d (map (under s) os)
part_there s d x [] here a = tt
part_there s d x (o ∷ os) here a = (
  record { leads = rw here a.0.leads; once = a.0.once; bad = a.0.bad; strict = a.0.strict },
  part_there s d x os here a.1,
)

once_in : (s : Step) (d x : Data) → part_at s d ≡ Some x → IsOnce d → IsOnce x
once_in s d x here once path ms e = once (s ∷ path) ms (rw here e)

module _ (of : Leaving) (leaves : (d : Data) → IsOnce d → AreThere d (of d)) (whole : Data) (once : IsOnce whole) where
  of_part : (s : Step) (x : Data) → part_at s whole ≡ Some x → AreThere whole (map (under s) (of x))
  of_part s x here = part_there s whole x (of x) here (leaves x (once_in s whole x here once))

  elements_there : (n : ℕ) (ds : Items) → ((k j : ℕ) → j ≡ n + k → get_item k ds ≡ at j whole)
      → AreThere whole (dropped_elements of n ds)
  elements_there n no_items finds = tt
  elements_there n (item x xs) finds =
      both_there whole (map (under (element n)) (of x)) (dropped_elements of (suc n) xs)
      (of_part (element n) x (sym (finds 0 n (omega arith))))
      (elements_there (suc n) xs (λ k j is. finds (suc k) j (omega arith)))

  members_there : (ms : Members) → ((name : List ℕ) (x : Data) → HasMember name x ms → get name whole ≡ Some x)
      → AreThere whole (dropped_members of ms)
  members_there no_members finds = tt
  members_there (member l x ms) finds =
      both_there whole (map (under (named l)) (of x)) (dropped_members of ms)
      (of_part (named l) x (finds l x (inl (refl, refl)))) (members_there ms (λ name y has. finds name y (inr has)))

  found_there : (name : List ℕ) (o : Option Data) → get name whole ≡ o
      → AreThere whole (dropped_present of (option_map (λ x. (name, x)) o))
  found_there name None e = tt
  found_there name (Some x) e = of_part (named name) x e

  other_there : (o : Option (List ℕ)) → AreThere whole (dropped_present of (other_present o whole))
  other_there None = tt
  other_there (Some name) = found_there name (get name whole) refl

  present_there : (e : Entry) → AreThere whole (dropped_present of (present_in e whole))
  present_there e = by_own (get e.name whole) refl where
    by_own : (o : Option Data) → get e.name whole ≡ o
        → AreThere whole (dropped_present of (own_present e.name o (other_present e.other whole)))
    by_own None is = other_there e.other
    by_own (Some x) is = of_part (named e.name) x is

list_there : (of : Leaving) → ((d : Data) → IsOnce d → AreThere d (of d)) → (d : Data) → IsOnce d
    → AreThere d (dropped_list of d)
list_there of leaves (array ds) once =
    elements_there of leaves (array ds) once 0 ds (λ k j is. rw (is, zero-add) refl)
list_there of leaves _ once = tt

map_there : (of : Leaving) → ((d : Data) → IsOnce d → AreThere d (of d)) → (d : Data) → IsOnce d
    → AreThere d (dropped_map of d)
map_there of leaves (object ms) once =
    members_there of leaves (object ms) once ms (λ name x has. once [] ms refl name x has)
map_there of leaves _ once = tt

tolerated_there : (keeps : Data → Bool) (s : Shape) → Strict keeps s → (d : Data) → IsOnce d → AreThere d (dropped s d)
    → (b : Bool) → keeps d ≡ b
    → AreThere d (if b then dropped s d else record { path = []; value = d; kept = record { accepts = keeps; shape = s } } ∷ [])
tolerated_there keeps s strict d once a true e = a
tolerated_there keeps s strict d once a false e =
    (record { leads = refl; once = once; bad = e; strict = strict }, tt)

mutual
  shape_there : (s : Shape) → Sound s → (d : Data) → IsOnce d → AreThere d (dropped s d)
  shape_there (leaf w) sound d once = tt
  shape_there (list a s) sound d once = list_there (dropped s) (shape_there s sound) d once
  shape_there (shape.map a s) sound d once = map_there (dropped s) (shape_there s sound) d once
  shape_there (record_of fault rows) sound d once = rows_there rows sound d once
  shape_there (tolerant keeps s) sound d once =
      tolerated_there keeps s sound.0 d once (shape_there s sound.1 d once) (keeps d) refl

  rows_there : (rows : Rows) → AreSound rows → (d : Data) → IsOnce d → AreThere d (dropped_rows rows d)
  rows_there no_rows sound d once = tt
  rows_there (row e a s rs) sound d once =
      both_there d (dropped_present (dropped s) (present_in e d)) (dropped_rows rs d)
      (present_there (dropped s) (shape_there s sound.0) d once e) (rows_there rs sound.1 d once)

each_left : (d : Data) (os : List LeftOut) (vs : List Told) → AreThere d os → AreDropped os vs → EachLeftOut d os vs
each_left d [] [] a h = tt
each_left d (o ∷ os) (v ∷ vs) a h = (
  record {
    leads = a.0.leads;
    refused = holds o.kept a.0.strict o.value v.blame a.0.once a.0.bad
        (leads_of v.blame v.reason o.kept.shape o.value h.0.1);
  },
  each_left d os vs a.1 h.1,
)
each_left d [] (v ∷ vs) a h = absurd h
each_left d (o ∷ os) [] a h = absurd h

pub left_out : {P : Type 0} (t : PlainTable P) (d : Data) (vs : List DroppedValue) → Drops (table_shape t) d vs
    → AreLeftOut t d vs
left_out t d vs drops = record {
  list = drops;
  left = λ once. each_left d (dropped (table_shape t) d) (map told vs)
      (shape_there (table_shape t) (rows_sound t.members) d once) drops;
}
